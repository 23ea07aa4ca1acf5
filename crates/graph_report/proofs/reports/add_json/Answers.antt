use Rattle.std.proofs.Common.{◌∙◌, ap, ℕ, List, ◌++◌, append_assoc, string_bytes, decimal}
use Rattle.std.specs.Prelude.{codes}
use Rattle.std.proofs.lemmas.Result.{on_ok_weaker}
use Rattle.graph_report.proofs.reports.add_json.Goals as goal

-- the word, and then the number
pub returns : goal.returns
returns c =
    on_ok_weaker c.add_number.result
    (λ added. added
    ∙ ap (λ (text : List ℕ). text ++ decimal c.len.result) c.in_ok-push_str.ensures.bytes
    ∙ append_assoc (string_bytes c.args.out.now) (codes "module Json ") (decimal c.len.result)
    ∙ ap (λ (n : ℕ). string_bytes c.args.out.now ++ (codes "module Json " ++ decimal n)) c.len.ensures)
    c.add_number.ensures
