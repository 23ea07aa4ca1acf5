use Rattle.std.proofs.Common.{◌<◌, ◌++◌, ◌∷◌, [], ◌∙◌, sym, subst, arith, rules, ℕ, List, Bool, length}
use Rattle.std.specs.List.{AllByRecursion}
use Rattle.topological_order.proofs.OrderLemmas.{has_last, on_ok}
use Rattle.strong_components.proofs.FinishLemmas.{on_stack, step_up, step_down, step_smaller, walk_same, steps_same}
use Rattle.strong_components.proofs.finish.Walk.step.Goals as goal

pub targets_of-targets-requires : goal.targets_of-targets-requires
targets_of-targets-requires c =
    on_stack c.args.links.now c.args.self.now.finished c.args.self.now.met c.args.self.now.cursor
    (c.args.self.now.stack ++ c.args.node ∷ []) c.args.node c.requires.walk (has_last c.args.self.now.stack c.args.node)

pub bounds-as_slice-node : goal.bounds-as_slice-node
bounds-as_slice-node c =
    rw (c.as_slice-2.ensures, c.requires.walk.cursor_len)
    (on_stack c.args.links.now c.args.self.now.finished c.args.self.now.met c.args.self.now.cursor
    (c.args.self.now.stack ++ c.args.node ∷ []) c.args.node c.requires.walk
    (has_last c.args.self.now.stack c.args.node))

pub offset_bounds-as_slice-node : goal.offset_bounds-as_slice-node
offset_bounds-as_slice-node c =
    let l : c.args.node < length c.as_slice-2.result.now =
    rw (c.as_slice-2.ensures, c.requires.walk.cursor_len)
    (on_stack c.args.links.now c.args.self.now.finished c.args.self.now.met c.args.self.now.cursor
    (c.args.self.now.stack ++ c.args.node ∷ []) c.args.node c.requires.walk
    (has_last c.args.self.now.stack c.args.node))
    in search rules

pub first_unmet-place-requires-clause-within : goal.first_unmet-place-requires-clause-within
first_unmet-place-requires-clause-within c =
    subst (λ (ms : List Bool). AllByRecursion (λ t. t < length ms) c.targets_of-targets.result.now)
    (sym c.as_slice.ensures)
    (subst (λ (n : ℕ). AllByRecursion (λ t. t < n) c.targets_of-targets.result.now) (sym c.requires.walk.met_len)
    (subst (λ (ts : List ℕ). AllByRecursion (λ t. t < length c.args.links.now) ts) (sym c.targets_of-targets.ensures)
    (c.requires.within c.args.node)))

pub returns-then-place-targets-clause-walk : goal.returns-then-place-targets-clause-walk
returns-then-place-targets-clause-walk c =
    on_ok c.push.result _ _
    (λ is. rw is
    (step_up c.args.links.now c.args.self.now.finished c.args.self.now.met c.args.self.now.cursor c.args.self.now.stack
    c.args.node c.requires.walk c.as_slice.result.now c.as_slice.ensures c.as_slice-2.result.now c.as_slice-2.ensures
    c.targets_of-targets.result.now c.targets_of-targets.ensures c.first_unmet-place.result
    c.first_unmet-place.ensures.passed c.if-place-targets.true))
    c.push.ensures.ok

pub returns-clause-walk : goal.returns-clause-walk
returns-clause-walk c =
    on_ok c.begin.result _ _
    (λ is. walk_same c.args.links.now _ _ _ _ _ _ _ _ _ _ c.begin.ensures.finished c.begin.ensures.met
    (c.begin.ensures.cursor ∙ c.set.ensures) c.in_ok-push.ensures.ok is
    (step_down c.args.links.now c.args.self.now.finished c.args.self.now.met c.args.self.now.cursor
    c.args.self.now.stack
    c.args.node c.requires.within c.requires.walk c.as_slice.result.now c.as_slice.ensures c.as_slice-2.result.now
    c.as_slice-2.ensures c.targets_of-targets.result.now c.targets_of-targets.ensures c.first_unmet-place.result
    c.first_unmet-place.ensures.passed less (c.first_unmet-place.ensures.open_yet less)))
    c.begin.ensures.stack
  where
    less : c.first_unmet-place.result < length c.targets_of-targets.result.now
    less = omega (arith, c.first_unmet-place.ensures.within, c.if-place-targets.false)

pub returns-clause-smaller : goal.returns-clause-smaller
returns-clause-smaller c =
    on_ok c.begin.result _ _
    (λ is. steps_same _ _ _ _ _ _ _ c.begin.ensures.met c.in_ok-push.ensures.ok is
    (step_smaller c.args.links.now c.args.self.now.met c.args.self.now.stack c.args.node c.requires.within
    c.requires.walk.met_len c.as_slice.result.now c.as_slice.ensures c.targets_of-targets.result.now
    c.targets_of-targets.ensures c.first_unmet-place.result less (c.first_unmet-place.ensures.open_yet less)))
    c.begin.ensures.stack
  where
    less : c.first_unmet-place.result < length c.targets_of-targets.result.now
    less = omega (arith, c.first_unmet-place.ensures.within, c.if-place-targets.false)
