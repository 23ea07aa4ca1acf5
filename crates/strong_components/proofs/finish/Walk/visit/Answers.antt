use Rattle.std.proofs.Common.{◌≡◌, ◌∙◌, sym, subst, ap, false, List, ℕ, Bool}
use Rattle.std.specs.Prelude.{slice_index_or}
use Rattle.std.proofs.lemmas.Bool.{false≢true}
use Rattle.topological_order.specs.Order.{has}
use Rattle.strong_components.proofs.FinishLemmas.{walk_more}
use Rattle.strong_components.proofs.finish.Walk.visit.Goals as goal

pub run-requires-clause-walk : goal.run-requires-clause-walk
run-requires-clause-walk c =
    rw (c.begin.ensures.met, c.begin.ensures.finished, c.begin.ensures.cursor, c.in_ok-begin.ensures.stack)
    (walk_more c.args.links.now c.args.self.now.finished c.args.self.now.met c.args.self.now.cursor
    c.args.self.now.stack
    c.args.node c.requires.walk c.requires.node
    (subst (λ (ms : List Bool). slice_index_or ms c.args.node false ≡ false) c.as_slice.ensures
    c.if-as_slice-node.false)
    (λ u h. absurd (false≢true (ap (λ (xs : List ℕ). has xs u) (sym c.requires.empty) ∙ h))))
