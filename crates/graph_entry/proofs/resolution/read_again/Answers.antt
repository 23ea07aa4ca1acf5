use Rattle.std.proofs.Common.{◌≡◌, sym, subst, List, ℕ, None, Ok, Err}
use Rattle.url.specs.Parser.{parse_url}
use Rattle.graph_entry.specs.Specifier.{text_of}
use Rattle.graph_entry.proofs.ResolutionLemmas.{kept_refusal}
use Rattle.graph_entry.proofs.resolution.read_again.Goals as goal

pub returns-in-Ok : goal.returns-in-Ok
unfolding text_of
returns-in-Ok c =
    let value : c.as_str.result.now ≡ text_of c.args.specifier.now = c.as_str.ensures.value in
    let P : List ℕ → Type 0 = λ t. parse_url None t ≡ Ok c.in-Ok.url in
    sym (subst P value c.in-Ok.ensures)

-- the refusal is the reader's, and the text read is the specifier's
pub returns-in_ok-kept-in-Err : goal.returns-in_ok-kept-in-Err
unfolding text_of
returns-in_ok-kept-in-Err c =
    let value : c.as_str.result.now ≡ text_of c.args.specifier.now = c.as_str.ensures.value in
    let P : List ℕ → Type 0 = λ t. parse_url None t ≡ Err c.in_ok-kept-in-Err.field-0 in
    sym (subst P value (kept_refusal _ _ _ c.in-Err.ensures c.in_ok-kept-in-Err.ensures))
