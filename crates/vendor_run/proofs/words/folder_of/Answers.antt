-- The words are two.
use Rattle.std.proofs.Common.{◌≡◌, ◌∙◌, sym, ap₂, subst, ℕ, List, [], ◌∷◌, map, length, arith}
use Rattle.std.specs.Prelude.{IfOk, MatchOption, string_bytes}
use Rattle.url.specs.Parts.{Parts}
use Rattle.vendor_run.specs.Words.{IsVendor}
use Rattle.vendor_run.proofs.WordLemmas.{two_words}
use Rattle.vendor_run.proofs.words.folder_of.Goals as goal

pub returns-in-len2-clause-folder : goal.returns-in-len2-clause-folder
returns-in-len2-clause-folder c =
    let two : length c.args.words.now ≡ 2 = omega (arith, c.in-len2.len_at_least, c.in-len2.len_below) in
    let same : map string_bytes c.args.words.now ≡ c.as_str.result.now ∷ c.as_str-in-len2.result.now ∷ [] =
    two_words c.args.words.now c.word-item.result c.base-item.result two c.word-item.is c.base-item.is
    ∙ ap₂ (λ (s t : List ℕ). s ∷ t ∷ []) (sym c.as_str.ensures.value) (sym c.as_str-in-len2.ensures.value) in
    subst (λ (ws : List (List ℕ)). IfOk c.named_folder.result (λ found. MatchOption found
    ((base : Parts) → ¬ IsVendor base ws) (λ base. IsVendor base ws))) (sym same) c.named_folder.ensures.folder
