use Rattle.std.proofs.Common.{◌∙◌, sym, ap, drop, take_all, length-drop, arith}
use Rattle.std.proofs.lemmas.List.{drop-map}
use Rattle.lexical_path.specs.Paths.{texts}
use Rattle.file_url.specs.WindowsPaths.{is_empty_part}
use Rattle.file_url.proofs.TextsLemmas.{prefix_len-texts}
use Rattle.file_url.proofs.windows.without_empty_front.Goals as goal

pub returns : goal.returns
returns c =
    let segments = c.args.segments.now in
    let n = c.empty_front.result in
    ap texts (take_all _ (drop n segments) (omega (arith, length-drop n segments)))
    ∙ sym (drop-map (λ text. text.now) n segments)
    ∙ ap (λ k. drop k (texts segments)) (c.empty_front.ensures.value ∙ sym (prefix_len-texts is_empty_part segments))
