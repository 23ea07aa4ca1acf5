-- Without memory those so far are the first of all.
use Rattle.std.specs.Prelude.{◌++◌}
use Rattle.url.specs.Parts.{serialize}
use Rattle.deno_dts.specs.Transformed.{Begins, diagnosed}
use Rattle.deno_dts.proofs.TransformLemmas.{begins_taken, on_err}
use Rattle.deno_dts.proofs.transformer.FastCheckDtsTransformer.add.Goals as goal

pub returns-in_err-add_one-clause-begun : goal.returns-in_err-add_one-clause-begun
returns-in_err-add_one-clause-begun c =
    let it = c.args.self.now in
    let front = c.add_one.new.self.diagnostics.items in
    on_err c.from_residual.result (Begins front (it.diagnostics.items ++ diagnosed it c.args.found.now))
    (begins_taken (serialize it.specifier.now) c.loop-it.it-index front c.loop-it.self.diagnostics.items
    it.diagnostics.items c.args.found.now c.in_err-add_one.ensures.kept c.loop-it.invariant.0)
