-- The line of declarations.
use Rattle.std.specs.Prelude.{ℕ, List, ◌++◌, codes, string_bytes}
use Rattle.std.proofs.Common.{◌∙◌, ap}
use Rattle.std.proofs.lemmas.Result.{on_ok_weaker}
use Rattle.url.specs.Parts.{serialize}
use Rattle.json.specs.Print.{quoted}
use Rattle.graph_entry.specs.Specifier.{text_of}
use Rattle.graph_report.specs.Report.{line_end, blank}
use Rattle.joravelsu_run.specs.Declarations.{text_line}
use Rattle.joravelsu_run.proofs.DeclarationLemmas.{five_added, last_added}
use Rattle.joravelsu_run.proofs.declarations.add_text.Goals as goal

pub returns : goal.returns
unfolding text_line text_of
returns c =
    let old = string_bytes c.args.out.now in
    let word = string_bytes c.push_str.new.self in
    let url = string_bytes c.push_str-2.new.self in
    let apart = string_bytes c.push_str-3.new.self in
    let text = string_bytes c.add_quoted.new.out in
    let all = string_bytes c.push_str-4.new.self in
    on_ok_weaker c.push_str-4.result
    (λ added. five_added old word url apart text (codes "declarations ") (serialize c.args.specifier.now) blank
    (quoted c.args.text.now) c.in_ok-push_str.ensures.bytes
    (c.in_ok-push_str-2.ensures.bytes ∙ ap (λ (t : List ℕ). word ++ t) c.as_str.ensures.value)
    c.in_ok-push_str-3.ensures.bytes c.in_ok-add_quoted.ensures all line_end added)
    (last_added c.push_str-4.result all (text ++ line_end) text c.push_str-4.ensures.bytes)
