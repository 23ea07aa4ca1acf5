-- The clauses, after what was found before.
use Rattle.std.specs.Prelude.{[]}
use Rattle.std.proofs.Common.{◌∙◌}
use Rattle.url.specs.Parts.{serialize}
use Rattle.dts_rules.specs.Sets.{Numbers}
use Rattle.dts_rules.specs.Programs.{declared}
use Rattle.dts_sets.specs.Ids.{Numbered}
use Rattle.deno_dts.specs.Declarations.{declarations_in}
use Rattle.deno_dts.specs.Drafted.{state_after}
use Rattle.deno_dts.specs.Transformed.{Begins, diagnosed, diagnostics_with, env_of, found_in}
use Rattle.deno_dts.proofs.TransformLemmas.{all_diagnosed, begins_nothing, begins_same, found_after, on_err, state_is_after, tree_after}
use Rattle.deno_dts.proofs.transformer.FastCheckDtsTransformer.transform.Goals as goal

pub returns-in_err-declarations-clause-prefix : goal.returns-in_err-declarations-clause-prefix
returns-in_err-declarations-clause-prefix c =
    let it = c.args.self.now in
    let p = c.args.program.now in
    on_err c.from_residual.result ((number : Numbers) → Numbered p.tokens c.args.numbers.now number
    → Begins it.diagnostics.items (diagnostics_with number it p.typed))
    (λ number n. begins_nothing it.diagnostics.items
    (diagnosed it (declared (env_of number it) p.typed (state_after [] it.made)).1.found))

pub returns-in_err-add-clause-prefix : goal.returns-in_err-add-clause-prefix
returns-in_err-add-clause-prefix c =
    let it = c.args.self.now in
    let p = c.args.program.now in
    let d = c.in_ok-declarations.field-0 in
    let front = c.add.new.self.diagnostics.items in
    on_err c.from_residual-in_err-add.result ((number : Numbers) → Numbered p.tokens c.args.numbers.now number
    → Begins front (diagnostics_with number it p.typed))
    (λ number n. begins_same front _ (diagnostics_with number it p.typed) c.in_err-add.ensures.begun
    (all_diagnosed (serialize it.specifier.now) (declared (env_of number it) p.typed (state_after [] it.made)).1
    it.diagnostics.items d.made d.found c.as_slice.result.now (c.in_ok-declarations.ensures.found number n)
    c.as_slice.ensures))

pub returns-clause-tree : goal.returns-clause-tree
returns-clause-tree c = λ number n.
    let it = c.args.self.now in
    tree_after (env_of number it) c.args.program.now.typed (found_in it) it.made
    (declarations_in c.in_ok-declarations.field-0.declarations) (c.in_ok-declarations.ensures.tree number n)

pub returns-clause-found : goal.returns-clause-found
returns-clause-found c = λ number n.
    let it = c.args.self.now in
    let d = c.in_ok-declarations.field-0 in
    state_is_after (env_of number it) c.args.program.now.typed (found_in it) it.made d.made d.found
    c.as_slice.result.now
    (found_in c.add.new.self) (c.in_ok-declarations.ensures.found number n) c.as_slice.ensures
    (found_after (serialize it.specifier.now) it.diagnostics.items c.add.new.self.diagnostics.items
    c.as_slice.result.now c.in_ok-add.ensures.added)

pub returns-clause-diagnostics : goal.returns-clause-diagnostics
returns-clause-diagnostics c = λ number n.
    let it = c.args.self.now in
    let d = c.in_ok-declarations.field-0 in
    c.in_ok-add.ensures.added
    ∙ all_diagnosed (serialize it.specifier.now)
    (declared (env_of number it) c.args.program.now.typed (state_after [] it.made)).1 it.diagnostics.items d.made
    d.found
    c.as_slice.result.now (c.in_ok-declarations.ensures.found number n) c.as_slice.ensures
