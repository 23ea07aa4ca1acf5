-- Those so far were added.
use Rattle.std.proofs.Common.{◌≡◌, ◌++◌, take}
use Rattle.deno_dts.specs.Transformed.{diagnosed}
use Rattle.deno_dts.proofs.transformer.FastCheckDtsTransformer.add.Given as goal

abbrev pub invariant-loop-it : goal.invariant-loop-it
invariant-loop-it l =
    (l.self.diagnostics.items ≡ l.initial.self.diagnostics.items ++ diagnosed l.initial.self (take l.it-index l.found))
    × (l.self.made ≡ l.initial.self.made)
    × (l.self.specifier.now ≡ l.initial.self.specifier.now)
    × (l.self.public_ranges.now ≡ l.initial.self.public_ranges.now)
    × (l.self.unresolved_context ≡ l.initial.self.unresolved_context)
