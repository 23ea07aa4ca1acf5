-- The path is a shortest one, or there is none.
use Rattle.std.proofs.Common.{◌∙◌, ap}
use Rattle.import_map.proofs.json_reading_lemmas.ReadingLemmas.{IfOk-map}
use Rattle.joravelsu_run.specs.Ways.{path_lines, way, none}
use Rattle.joravelsu_run.proofs.ways.way_lines.Goals as goal

pub returns-in-Some : goal.returns-in-Some
returns-in-Some c =
    IfOk-map c.path_text.result _ _
    (λ text is. way c.in-Some.path (rw c.in-Some.is at c.in_ok-path.ensures)
    (is ∙ ap (path_lines c.args.graph.now) c.as_slice.ensures))
    c.path_text.ensures

pub returns-in-None : goal.returns-in-None
returns-in-None c =
    IfOk-map c.from_str.result _ _ (λ text is. none (rw c.in-None.is at c.in_ok-path.ensures) is) c.from_str.ensures.ok
