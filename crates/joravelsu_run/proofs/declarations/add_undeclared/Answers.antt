-- The line of a source that is no program.
use Rattle.std.specs.Prelude.{ℕ, List, ◌++◌, codes, string_bytes}
use Rattle.std.proofs.Common.{◌∙◌, ap}
use Rattle.std.proofs.lemmas.Result.{on_ok_weaker}
use Rattle.url.specs.Parts.{serialize}
use Rattle.graph_entry.specs.Specifier.{text_of}
use Rattle.graph_report.specs.Report.{line_end}
use Rattle.joravelsu_run.specs.Declarations.{undeclared_line}
use Rattle.joravelsu_run.proofs.DeclarationLemmas.{four_added, last_added}
use Rattle.joravelsu_run.proofs.declarations.add_undeclared.Goals as goal

pub returns : goal.returns
unfolding undeclared_line text_of
returns c =
    let old = string_bytes c.args.out.now in
    let word = string_bytes c.push_str.new.self in
    let url = string_bytes c.push_str-2.new.self in
    let none = string_bytes c.push_str-3.new.self in
    let all = string_bytes c.push_str-4.new.self in
    on_ok_weaker c.push_str-4.result
    (λ added. four_added old word url none all (codes "declarations ") (serialize c.args.specifier.now) (codes " -")
    line_end c.in_ok-push_str.ensures.bytes
    (c.in_ok-push_str-2.ensures.bytes ∙ ap (λ (t : List ℕ). word ++ t) c.as_str.ensures.value)
    c.in_ok-push_str-3.ensures.bytes added)
    (last_added c.push_str-4.result all (none ++ line_end) none c.push_str-4.ensures.bytes)
