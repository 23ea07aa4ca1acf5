-- `of` takes the box apart, and keeps its pointer.
use Rattle.std.proofs.Common.{◌≡◌, List, [], ◌∷◌, ◌++◌, refl, sym, ap, ◌∙◌, subst}
use Rattle.std.specs.Prelude.{Some}
use mir.Syntax.{impl, tnil, tcons, dnil}
use mir.Raw.{raw as bare}
use mir.Val.{Val, vptr}
use base.Logic.{SProp, ent, emp, never, id⊢, fst∗}
use base.Fraction.{full_share}
use base.Fml.{ftrue, flft}
use prog.Wp.{WpFn}
use types.Logic.{sem}
use types.Kit.{‵, raw, ◌⊛◌, some, later, ◌$◌, ◌∵◌, !, qed, by, move, keep, drop, split, join, fsplit, fjoin, pick, suffices, use0, use1, await, rewrite, feq_l}
use types.Run.{of_opd, no_more, and_then, returns, enter}
use types.ByLocal.{alloc_all, pass_all, free_all, look_at, get, sets, lands_as}
use types.Part.{agg}
use contract.Monad.{fact, fact_i}
use contract.BorrowLft.{◌⊑◌, ⊑_static}
use contract.Running.{tables}
use denote.Exit.{yes}
use denote.RattleType.{RattleType, owns}
use denote.Signature.{types_at, plain}
use denote.Builtin.{RawPtr}
use denote.RawPtr.{Ptr, block_ptr, null_ptr, ptr_val, in_a_block}
use denote.Steps.{nothing, only}
use denote.Param.{param, layout, arg}
use denote.Triple.Clauses.{Lasts, lasts}
use denote.Triple.Spec.{triple_of}
use denote.Triple.Call.{calls_at}
use denote.Triple.Table.{framed}
use denote.Triple.Walked.{Stays, stay_dropped, walk_of}
use Rattle.std.proofs.alloc.Calls.{Goes-blank}
use Rattle.std.proofs.BoxSteps.Form as box
use Rattle.std.proofs.BoxSteps.Steps.{box_out, box_in}
use Rattle.std.specs.Box.Ownership.{box_owns}
use Rattle.std.specs.contracts.boxed.Box.into_raw as callee
use Rattle.std.proofs.boxed.Box.into_raw.Met.{met}
use Rattle.std.specs.contracts.boxed.Box as box_row
use Rattle.std.specs.contracts.alloc.Global as heap
use Rattle.std.proofs.alloc.Global.TheLaws as heap_laws
use Rattle.std.specs.contracts.impls.GlobalAllocator.TheImpl.{ghosts, dict}
use Rattle.std.proofs.raw_atomic.Walks.{proved_at, leaves}
use Rattle.std.proofs.impls.GlobalAllocator.TheImpl.Met as impl_met
use denote.Param.NoDrop.{glues}
use Rattle.graph_c.proofs.Destruct++none.drop.Code as none_code
use borrow.Fn.Glue.{glue_by}
use borrow.Fn.Impl.{via_longer, method_Known}
use borrow.Fn.Kinds as kinds
use borrow.Fn.Run.{Over}
use borrow.Kind.Owned.{p_owned}
use contract.Running.{tables_of}
use denote.Exit.{no}
use denote.Param.Laws.{param_laws, arg_laws}
use denote.Param.Mute.{Mute-seen}
use denote.Param.{layouts}
use denote.Triple.Carry.{AllWithin}
use denote.Triple.Clauses.{at_exit}
use denote.Triple.Walked.{Fit}
use mir.Syntax.{method}
use Rattle.graph_c.proofs.graph_c++held++Held+Destruct.drop.Kinds as drops
use Rattle.graph_c.proofs.graph_c++held++Held+Destruct.drop.Met as drops_met
use Rattle.graph_c.proofs.graph_c++held++Held+Destruct.drop.Reads as drops_reads
use Rattle.graph_c.proofs.graph_c++held++Held+Destruct.drop.Symbol as drops_symbol
use Rattle.graph_c.proofs.HandleSteps.{word, handle_in}
use Rattle.graph_c.specs.contracts.held.Held as held
use Rattle.graph_c.proofs.held.Held.TheLaws as held_laws
use Rattle.graph_c.specs.contracts.handle.Handle.of as f
use Rattle.graph_c.proofs.handle.Handle.of.Statement.{statement}
use Rattle.graph_c.proofs.handle.Handle.of.Code as code

pub of_spec : {M : Type 1} → statement M
unfolding tables_of none_code.code
of_spec {M} 𝓤 𝓛 𝓜 𝓡 wired =
    let H = 𝓛.H in let 𝓣 = tables 𝓤 H 𝓜 𝓡 𝓡.env in
    let g = ghosts in
    let T = arg (bare (layout held.the_row)) no held.the_row in let L = arg_laws (bare (layout held.the_row)) no held.the_row held_laws.the_row_laws refl in
    let A = arg (bare (layout heap.the_row)) no heap.the_row in let LA = arg_laws (bare (layout heap.the_row)) no heap.the_row heap_laws.the_row_laws refl in
    let d = dict in
    let dd = impl ("graph_c::Destruct++none::drop" ∷ []) (tcons (layout A) tnil) dnil in
    let dx = impl ("graph_c::graph_c++held++Held+Destruct::drop" ∷ []) tnil dnil in
    let E : box.Bx = record { row = T; laws = L; al = record { row = A; laws = LA; g = g; d = d; drops = dd } } in
    let R : RattleType = param 0 T in
    let En = f.ended in let c = f.clauses 𝓛 𝓜.mem 𝓡.returns in let fn = code.function in
    let Bx : RattleType = box_row.the_row held.the_row heap.the_row g in
    let hs : Stays En.signature.params En.kept = (stay_dropped (plain (λ _. Bx)) yes, tt) in
    proved_at 𝓛 En hs c 𝓜 𝓡 (Goes-blank 𝓛 0 (plain (λ _. Bx)) yes (λ κs x f. tt), tt) f.Key.name fn (code.unfolded 𝓤 H 𝓜 𝓡 wired) (λ z are.
    let v = z.0.3.0 in let a = v.alloc in let Post : Val → SProp 𝓤 = (walk_of 𝓛 En hs c).post z in let Run : List Val → SProp 𝓤 = λ ws. WpFn 𝓤 H 𝓣.C 𝓣.Λ fn ws Post in
    qed 𝓛 ((‵ ftrue ⊛ ‵ (owns (types_at En.signature.params z.0.0) z.0.3 z.0.4)) ∷ raw ((c z.0.0 z.0.3).requires z.1) ∷ []) ∵ split ! $ drop ! $ fsplit ! $ keep ! (0 ∷ []) $
    box_out E ! v z.0.4.0 (λ b o h e ws fits. box_in E ! v b o v.value e refl $
    let w : Val = box.word E h b o in let typed = box.box_typed E h b o fits in let k = triple_of 𝓛 (callee.signature T A g d dd dx) (callee.spec T A g d dd dx 𝓛 𝓜.mem 𝓡.returns) in
    let toks = ‵ (flft [] full_share) ⊛ ‵ (flft [] full_share) ⊛ ‵ ftrue in
    let y : k.Ghost = ((([], ([], tt)), (full_share, (full_share, tt)), tt, (v, tt), (w ∷ [], tt)), tt) in
    nothing ! $ move ! (1 ∷ 0 ∷ []) $ fjoin ! $
    nothing ! $ use0 𝓛 (‵ (flft [] full_share)) (𝓛.lfts.lft-nil full_share) $ join ! $ use0 𝓛 (‵ (flft [] full_share)) (𝓛.lfts.lft-nil full_share) $ join ! $ join ! $
    nothing ! $ use0 𝓛 (raw (fact 𝓤 ([] ⊑ A.lives))) (fact_i 𝓤 ([] ⊑ A.lives) (emp 𝓤) (⊑_static [])) $ join ! $ use0 𝓛 (raw (fact 𝓤 ([] ⊑ T.lives))) (fact_i 𝓤 ([] ⊑ T.lives) (emp 𝓤) (⊑_static [])) $ join ! $
    move ! (1 ∷ 0 ∷ []) $ join ! $ use1 𝓛 (raw (k.pre y)) (id⊢ 𝓤 _) $
    suffices ! (Run (w ∷ [])) (subst (λ (us : List Val). ent 𝓤 (Run (w ∷ [])) (Run us)) (sym (λ i. ws i ++ [])) (id⊢ 𝓤 (Run (w ∷ [])))) $
    enter ! 𝓣.C 𝓣.Λ fn (w ∷ []) Post $ alloc_all ! (λ l. pass_all ! refl (typed, tt) $ sets ! (of_opd ! (get ! refl)) refl typed $
    calls_at ! (framed 𝓤 𝓛.H 𝓜 (tables 𝓤 𝓛.H 𝓜 𝓡 𝓡.env)) k (met 𝓤 𝓛 𝓜 𝓡 (code.calls-std_alloc::boxed::Box::into_raw 𝓡.env wired) T A L LA g d dd dx (impl_met.passed 𝓡.env (code.calls-std_heap::GlobalAllocator::allocate 𝓡.env wired) (code.calls-std_heap::GlobalAllocator::deallocate 𝓡.env wired) (code.calls-std_heap::GlobalAllocator::grow 𝓡.env wired) (code.calls-std_heap::GlobalAllocator::shrink 𝓡.env wired) M 𝓤 𝓛 𝓜 𝓡)
    (glues "graph_c::Destruct++none::drop" 𝓡.env (code.calls-graph_c::Destruct++none::drop 𝓡.env wired) A LA M 𝓤 𝓛 𝓜 𝓡)
    (glue_by T L (record { M = M; 𝓤 = 𝓤; 𝓛 = 𝓛; 𝓜 = 𝓜; 𝓡 = 𝓡 }) dx 𝓡.env
    (λ κs a. Lasts (kinds.ended_of 0 drops.ps drops.r) tt a) (λ κs a. lasts (kinds.ended_of 0 drops.ps drops.r) tt a)
    (λ κs a x ws. Fit (kinds.ended_of 0 drops.ps drops.r) (kinds.stays drops.ps) tt a ws × drops_reads.Learnt tt a x (at_exit (kinds.ended_of 0 drops.ps drops.r) tt a ws))
    (λ κs a. AllWithin 1 (κs.0, tt) (T.lives, tt) × Unit {0}) 0 tt (λ κs a h. ((h, tt), tt))
    (via_longer 𝓛 (Over 𝓛 𝓜 𝓡 𝓡.env) 1 (p_owned (param 0 T) refl no (Mute-seen (λ x. tt)) (λ M 𝓤 𝓛. (param_laws 0 T L).lawful 𝓛) ∷ []) kinds.r_unit
    (λ κs a. Lasts (kinds.ended_of 0 drops.ps drops.r) tt a) (λ κs a. lasts (kinds.ended_of 0 drops.ps drops.r) tt a)
    (λ κs a x ws. Fit (kinds.ended_of 0 drops.ps drops.r) (kinds.stays drops.ps) tt a ws × drops_reads.Learnt tt a x (at_exit (kinds.ended_of 0 drops.ps drops.r) tt a ws))
    (λ κs a. AllWithin 1 (κs.0, tt) (T.lives, tt) × Unit {0}) (method dx 0 (layouts [] tt)) 0 tt (λ κs. tt) (λ κs a. drops_reads.Asked tt a) (λ κs a p. (tt, tt))
    (λ κs bd within a vss qs. method_Known 0 drops.ps drops.r drops_reads.requires drops_reads.ensures drops_reads.Asked drops_reads.Learnt drops_reads.known (record { M = M; 𝓤 = 𝓤; 𝓛 = 𝓛; 𝓜 = 𝓜; 𝓡 = 𝓡 })
    drops_symbol.name (method dx 0 (layouts [] tt)) (drops_symbol.as_method 𝓡.env (code.calls-graph_c::graph_c++held++Held+Destruct::drop 𝓡.env wired) (method dx 0 (layouts [] tt)) refl)
    (drops_met.met 𝓤 𝓛 𝓜 𝓡 (code.calls-graph_c::graph_c++held++Held+Destruct::drop 𝓡.env wired)) ((tt, qs, tt, a, vss), tt))))) y (and_then ! (get ! refl) (no_more !)) (λ u.
    use1 𝓛 (later (some (λ (r : Ptr). (toks ⊛ ‵ (RawPtr.own_val r (u ∷ []))) ⊛ some (λ (ls : Lasts (callee.ended T A g d dd dx) y.0.0 y.0.3). ‵ (lasts (callee.ended T A g d dd dx) y.0.0 y.0.3 ls) ⊛ ‵ (box_owns (g.dealloc_token a) R r v.value))))) (id⊢ 𝓤 _) $
    await ! tt $ pick ! (λ r. split ! $ move ! (1 ∷ []) $ pick ! (λ _. split ! $ drop ! $
    in_a_block ! r (λ p. box_owns (g.dealloc_token a) R p v.value) (fst∗ 𝓤 (never 𝓤) (sem 𝓛 (g.dealloc_token a (bare (layout T)) null_ptr))) (λ b' o' e'.
    move ! (1 ∷ []) $ split ! $ drop ! $ feq_l ! (λ eu.
    lands_as ! (ap only (eu ∙ ap (λ (p : Ptr). ptr_val p ∷ []) e')) refl (tt, tt) $ sets ! (agg ! (and_then ! (get ! refl) (no_more !))) refl (tt, (tt, tt)) $
    handle_in ! (block_ptr b' o') (Some v.value) $
    use0 𝓛 (raw (fact 𝓤 (Some v.value ≡ Some v.value))) (fact_i 𝓤 (Some v.value ≡ Some v.value) (emp 𝓤) refl) $ nothing ! $ nothing ! $ fjoin ! $ nothing ! $
    returns ! (look_at ! 0 refl) $ free_all ! refl $ keep ! (0 ∷ 1 ∷ 3 ∷ 2 ∷ []) $ by ! (leaves 𝓛 En hs c z (word (block_ptr b' o')) (record { at = block_ptr b' o'; value = Some v.value }) _ (tt, tt))))))))))
