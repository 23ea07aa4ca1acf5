use Rattle.std.proofs.Common.{◌≡◌, ◌∙◌, sym, ap, subst, ℕ, List, None, Some}
use Rattle.std.specs.Prelude.{IfOk}
use Rattle.std.specs.Result.{result_ok}
use Rattle.url.specs.Parser.{parse_url}
use Rattle.media_type.specs.declared.media_type.MediaType.{MediaType}
use Rattle.graph_entry.specs.Specifier.{text_of}
use Rattle.graph_vendor.proofs.KeptLemmas.{told_some, told_none}
use Rattle.graph_vendor.proofs.kept.told_media.Goals as goal

pub returns-in-Some : goal.returns-in-Some
unfolding text_of
returns-in-Some c =
    let read = parse_url None (text_of c.args.specifier.now) in
    let same : result_ok read ≡ Some c.in-Some.again =
    ap (λ (t : List ℕ). result_ok (parse_url None t)) (sym c.as_str.ensures.value) ∙ sym c.in_ok-again.ensures
    ∙ c.in-Some.is in
    subst (λ (told : MediaType). IfOk c.from_specifier.result (λ (media : MediaType). media ≡ told))
    (sym (told_some read c.in-Some.again same)) c.from_specifier.ensures

pub returns-in-None : goal.returns-in-None
unfolding text_of
returns-in-None c =
    sym (told_none (parse_url None (text_of c.args.specifier.now))
    (ap (λ (t : List ℕ). result_ok (parse_url None t)) (sym c.as_str.ensures.value) ∙ sym c.in_ok-again.ensures
    ∙ c.in-None.is))
