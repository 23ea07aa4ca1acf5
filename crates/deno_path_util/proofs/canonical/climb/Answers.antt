-- The names so far lead here; one more is missing, or the climb ends.
use Rattle.std.proofs.Common.{◌≡◌, ◌<◌, ◌≤◌, ◌++◌, ◌∷◌, [], None, inl, inr, sym, subst, rules, arith}
use Rattle.std.specs.declared.alloc.Global.{Global}
use Rattle.std.specs.Path.{path_file_name, path_parent}
use Rattle.std.proofs.lemmas.List.{map_push}
use Rattle.lexical_path.specs.Paths.{texts}
use Rattle.sys_traits.specs.declared.error.SysErrorKind.TheVariants.{NotFound}
use Rattle.sys_traits.specs.State.{WhereTold}
use Rattle.deno_path_util.specs.Climb.{or_here}
use Rattle.deno_path_util.specs.Steps.{Quiet}
use Rattle.deno_path_util.proofs.ToldLemmas.{falls_never}
use Rattle.deno_path_util.proofs.ClimbLemmas.{Leads, told_found, told_unjoined, told_stopped, told_missing, told_unkept, rank, rank_above}
use Rattle.deno_path_util.proofs.canonical.climb.Goals as goal

pub returns-in-Ok-with_names-clause-tells : goal.returns-in-Ok-with_names-clause-tells
returns-in-Ok-with_names-clause-tells g c =
    told_found c.args.path.now c.missing.here.now (texts c.missing.names.items) c.in-Ok.found c.in-Ok-with_names.joined
    c.in-Ok-with_names.ensures
    _ (g.S.SysState.told c.missing.sys) _ c.missing.invariant.1 c.in-Ok.ensures.tells

pub returns-in-Err-with_names-clause-tells : goal.returns-in-Err-with_names-clause-tells
returns-in-Err-with_names-clause-tells g c =
    told_unjoined Global c.args.path.now c.missing.here.now (texts c.missing.names.items) c.in-Ok.found
    c.out_of_memory.result c.out_of_memory.ensures.kind
    _ (g.S.SysState.told c.missing.sys) _ c.missing.invariant.1 c.in-Ok.ensures.tells

pub returns-then-ne-clause-tells : goal.returns-then-ne-clause-tells
returns-then-ne-clause-tells g c =
    told_stopped Global c.args.path.now c.missing.here.now (texts c.missing.names.items) c.in-Err.error
    (let h = c.if-ne.true in λ missing. absurd (search rules)) _ (g.S.SysState.told c.missing.sys) _
    c.missing.invariant.1 c.in-Err.ensures.tells

pub returns-in_default-clause-tells : goal.returns-in_default-clause-tells
returns-in_default-clause-tells g c =
    let none : path_file_name c.missing.here.now ≡ None = search rules in
    told_stopped Global c.args.path.now c.missing.here.now (texts c.missing.names.items) c.in-Err.error
    (λ missing. inl none) _ (g.S.SysState.told c.missing.sys) _ c.missing.invariant.1 c.in-Err.ensures.tells

pub returns-in_default-parent-clause-tells : goal.returns-in_default-parent-clause-tells
returns-in_default-parent-clause-tells g c =
    let none : path_parent c.missing.here.now ≡ None = search rules in
    told_stopped Global c.args.path.now c.missing.here.now (texts c.missing.names.items) c.in-Err.error
    (λ missing. inr none) _ (g.S.SysState.told c.missing.sys) _ c.missing.invariant.1 c.in-Err.ensures.tells

pub returns-in-Err-push-clause-tells : goal.returns-in-Err-push-clause-tells
returns-in-Err-push-clause-tells g c =
    let missing : c.in-Err.error.kind ≡ NotFound = search rules in
    told_unkept Global c.args.path.now (or_here c.in-Some-parent.folder.now)
    (texts c.missing.names.items ++ c.in-Some.name.now ∷ [])
    c.out_of_memory-in-Err-push.result c.out_of_memory-in-Err-push.ensures.kind _ _
    (told_missing c.args.path.now c.missing.here.now (texts c.missing.names.items) c.in-Some.name.now
    c.in-Some-parent.folder.now c.in-Err.error.kind missing
    (sym c.in-Some.ensures) (sym c.in-Some-parent.ensures) _ (g.S.SysState.told c.missing.sys) _ c.missing.invariant.1
    c.in-Err.ensures.tells)

pub missing-smaller : goal.missing-smaller
missing-smaller g c =
    subst (λ p. rank p < rank c.missing.here.now) (sym c.or_here-here.ensures)
    (rank_above c.missing.here.now c.in-Some.name.now c.in-Some-parent.folder.now (sym c.in-Some.ensures)
    (sym c.in-Some-parent.ensures))

pub missing-preserved : goal.missing-preserved
missing-preserved g c =
    let missing : c.in-Err.error.kind ≡ NotFound = search rules in
    let kept : texts c.push.new.self.items ≡ texts c.missing.names.items ++ c.in-Some.name.now ∷ [] =
    rw c.in_default-push.ensures.items (map_push _ c.missing.names.items c.in-Some.name) in
    let on : WhereTold (Quiet
    (Leads c.args.path.now (or_here c.in-Some-parent.folder.now)
    (texts c.missing.names.items ++ c.in-Some.name.now ∷ [])))
    (g.S.SysState.told c.args.sys.now) (g.S.SysState.told c.fs_canonicalize.new.self) =
    told_missing c.args.path.now c.missing.here.now (texts c.missing.names.items) c.in-Some.name.now
    c.in-Some-parent.folder.now c.in-Err.error.kind missing
    (sym c.in-Some.ensures) (sym c.in-Some-parent.ensures) _ (g.S.SysState.told c.missing.sys) _ c.missing.invariant.1
    c.in-Err.ensures.tells in (
      c.or_here-here.utf8,
      rw (c.or_here-here.ensures, kept) on,
      omega (arith, c.missing.invariant.2, falls_never c.in-Err.error.kind _ _ c.in-Err.ensures.counts),
    )
