use Rattle.std.proofs.Common.{◌≡◌, ◌∙◌, sym, subst, List, ℕ, ◌∷◌, drop, string_bytes}
use Rattle.std.specs.Prelude.{None}
use Rattle.std.specs.Str.Pattern.{FindsTextPrefix}
use Rattle.source_text.specs.module_text.ModuleText.{mark}
use Rattle.source_text.proofs.module_text_lemmas.ModuleTextLemmas.{without_mark-cut, without_mark-unmarked}
use Rattle.source_text.proofs.module_text.strip_bom.Goals as goal

-- the mark is one character
pub returns-in-Some : goal.returns-in-Some
returns-in-Some c =
    let stripped = c.in-Some.ensures.cases in
    let same : c.as_str.result.now ≡ string_bytes c.args.text = c.as_str.ensures.value in
    let after : List ℕ = drop stripped.0 c.as_str.result.now in
    let marked : string_bytes c.args.text ≡ 0xEF ∷ 0xBB ∷ 0xBF ∷ after = sym same ∙ stripped.1.1 in
    let cut = c.remove.ensures.bytes in
    cut.2 ∙ without_mark-cut (string_bytes c.args.text) after cut.0 c.remove.result marked cut.1

pub returns-in-None : goal.returns-in-None
returns-in-None c =
    sym (without_mark-unmarked (string_bytes c.args.text)
    (subst (λ (t : List ℕ). FindsTextPrefix mark t None) c.as_str.ensures.value c.in-None.ensures.cases))
