use Rattle.std.proofs.Common.{subst, arith, ℕ}
use Rattle.std.specs.List.{AllByRecursion}
use Rattle.import_map.specs.ImportMap.{Addresses}
use Rattle.import_map.specs.Names.{IsNoted}
use Rattle.import_map.proofs.NamesLemmas.{names_more, names_all}
use Rattle.import_map.proofs.names.names_of.Goals as goal

pub loop-scope-init : goal.loop-scope-init
loop-scope-init c = tt

pub loop-scope-preserved : goal.loop-scope-preserved
loop-scope-preserved c =
    names_more c.loop-scope.names.entries c.note_all.new.names.entries c.args.scopes.now c.loop-scope.scope-index
    c.loop-scope-item.result c.in_ok-note_all.ensures.kept c.loop-scope.invariant
    (omega (arith, c.loop-scope-test.true)) c.loop-scope-item.is
    (subst (λ (n : ℕ). AllByRecursion (λ e. IsNoted c.note_all.new.names.entries e.0 n) c.loop-scope-item.result.1)
    c.len.ensures
    (subst (λ (l : Addresses). AllByRecursion (λ e. IsNoted c.note_all.new.names.entries e.0 c.len.result) l)
    c.as_slice.ensures c.in_ok-note_all.ensures.noted))

pub returns-clause-noted : goal.returns-clause-noted
returns-clause-noted c =
    rw c.in_ok-list.ensures.entries
    (names_all c.loop-scope.names.entries c.args.scopes.now c.loop-scope.scope-index c.loop-scope.invariant
    (omega (arith, c.loop-scope-test.false)))
