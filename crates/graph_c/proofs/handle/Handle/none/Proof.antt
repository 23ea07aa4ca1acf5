-- `none` makes a handle that owns nothing.
use Rattle.std.proofs.Common.{[], ◌∷◌, refl, lit<}
use Rattle.std.specs.Prelude.{None, ◌≡◌}
use base.Fml.{ftrue}
use base.Logic.{emp}
use types.Kit.{‵, raw, ◌$◌, ◌∵◌, !, qed, by, keep, drop, use0}
use types.Run.{lit, no_more, and_then, returns, enter}
use types.ByLocal.{alloc_all, pass_all, free_all, look_at, sets}
use types.Part.{agg}
use contract.Monad.{fact, fact_i}
use contract.Running.{tables}
use denote.RawPtr.{null_ptr}
use denote.Steps.{nothing}
use denote.Triple.Entry.{on_entry}
use denote.Triple.Walked.{walk_of}
use Rattle.std.proofs.raw_atomic.Walks.{proved_at, leaves}
use Rattle.graph_c.proofs.HandleSteps.{word, handle_in}
use Rattle.graph_c.specs.contracts.handle.Handle.none as f
use Rattle.graph_c.proofs.handle.Handle.none.Statement.{statement}
use Rattle.graph_c.proofs.handle.Handle.none.Code as code

pub none_spec : {M : Type 1} → statement M
none_spec 𝓤 𝓛 𝓜 𝓡 wired =
    let 𝓣 = tables 𝓤 𝓛.H 𝓜 𝓡 𝓡.env in let c = f.clauses 𝓛 𝓜.mem 𝓡.returns in
    proved_at 𝓛 f.ended tt c 𝓜 𝓡 tt f.Key.name code.function (code.unfolded 𝓤 𝓛.H 𝓜 𝓡 wired) (λ z are.
    let Post = (walk_of 𝓛 f.ended tt c).post z in
    qed 𝓛 (raw (on_entry 𝓛 f.ended.signature z.0.0 z.0.1 z.0.3 z.0.4) ∷ raw ((c z.0.0 z.0.3).requires z.1) ∷ []) ∵ keep ! [] $
    enter ! 𝓣.C 𝓣.Λ code.function [] Post $ alloc_all ! (λ l. pass_all ! refl tt $
    sets ! (agg ! (and_then ! (lit ! tt) (no_more !))) refl (tt, (record { fits = lit< tt }, tt)) $
    nothing ! $ handle_in ! null_ptr None $
    use0 𝓛 (raw (fact 𝓤 (None ≡ None))) (fact_i 𝓤 (None ≡ None) (emp 𝓤) refl) $ nothing ! $ nothing ! $
    returns ! (look_at ! 0 refl) $ free_all ! refl $ keep ! (0 ∷ 1 ∷ 3 ∷ 2 ∷ []) $
    by ! (leaves 𝓛 f.ended tt c z (word null_ptr) (record { at = null_ptr; value = None }) tt tt)))
