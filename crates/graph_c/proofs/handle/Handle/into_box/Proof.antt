-- `into_box` makes the box again.
use Rattle.std.proofs.Common.{◌≡◌, List, [], ◌∷◌, ◌++◌, refl, sym, ap, ◌∙◌, subst}
use Rattle.std.specs.Prelude.{Some, IsSome}
use mir.Syntax.{impl, tnil, tcons, dnil}
use mir.Raw.{raw as bare}
use mir.Val.{Val, vptr}
use base.Logic.{SProp, ent, emp, never, id⊢, fst∗}
use base.Fraction.{full_share}
use base.Fml.{ftrue, flft}
use prog.Wp.{WpFn}
use types.Logic.{sem}
use types.Kit.{‵, raw, ◌⊛◌, some, later, at_ret, ◌$◌, ◌∵◌, !, qed, by, move, keep, drop, split, split3, join, fsplit, fjoin, pick, suffices, use0, use1, await, rewrite, feq_i}
use types.Run.{stop, fld, of_opd, no_more, and_then, first, blocks, exec, returns, enter}
use types.ByLocal.{alloc_all, pass_all, free_all, look_at, get, get_in, sets, lands_last, env}
use types.Part.{sub, whole}
use contract.Monad.{fact, fact_i}
use contract.BorrowLft.{◌⊑◌, ⊑_static}
use contract.Running.{tables}
use denote.Exit.{yes, no}
use denote.Param.Laws.{arg_laws}
use denote.RattleType.{RattleType, owns}
use denote.Signature.{types_at, plain}
use denote.RawPtr.{Ptr, block_ptr, null_ptr, ptr_val, in_a_block}
use denote.Steps.{nothing, only, heard}
use denote.Param.{param, layout, arg}
use denote.Triple.Clauses.{Lasts, lasts}
use denote.Triple.Spec.{triple_of}
use denote.Triple.Call.{calls_at_last}
use denote.Triple.Table.{framed}
use denote.Triple.Walked.{Stays, stay_dropped, walk_of}
use Rattle.std.proofs.alloc.Calls.{Goes-blank, handle_tells}
use Rattle.std.proofs.VecSteps.Shapes.{after}
use Rattle.std.proofs.cell.Inside.{Good}
use Rattle.std.proofs.BoxSteps.Form as box
use Rattle.std.proofs.BoxSteps.Steps.{box_out, box_in}
use Rattle.std.specs.Box.Ownership.{box_owns}
use Rattle.std.specs.contracts.boxed.Box.from_raw as callee
use Rattle.std.proofs.boxed.Box.from_raw.Met.{met}
use Rattle.std.specs.contracts.boxed.Box as box_row
use Rattle.std.specs.contracts.alloc.Global as heap
use Rattle.std.proofs.alloc.Global.TheLaws as heap_laws
use Rattle.std.specs.contracts.impls.GlobalAllocator.TheImpl.{ghosts, dict}
use Rattle.std.proofs.raw_atomic.Walks.{proved_at, leaves}
use Rattle.graph_c.specs.Owned.{held_owns}
use Rattle.std.proofs.impls.GlobalAllocator.TheImpl.Met as impl_met
use denote.Param.NoDrop.{glues}
use Rattle.graph_c.proofs.Destruct++none.drop.Code as none_code
use contract.Running.{tables_of}
use Rattle.graph_c.proofs.HandleSteps.{word, handle_out, some_of}
use Rattle.graph_c.specs.contracts.held.Held as held
use Rattle.graph_c.proofs.held.Held.TheLaws as held_laws
use Rattle.graph_c.specs.contracts.handle.Handle as handle
use Rattle.graph_c.specs.contracts.handle.Handle.into_box as f
use Rattle.graph_c.proofs.handle.Handle.into_box.Statement.{statement}
use Rattle.graph_c.proofs.handle.Handle.into_box.Code as code

pub into_box_spec : {M : Type 1} → statement M
unfolding tables_of none_code.code
into_box_spec {M} 𝓤 𝓛 𝓜 𝓡 wired =
    let H = 𝓛.H in let 𝓣 = tables 𝓤 H 𝓜 𝓡 𝓡.env in
    let g = ghosts in
    let T = arg (bare (layout held.the_row)) no held.the_row in let L = arg_laws (bare (layout held.the_row)) no held.the_row held_laws.the_row_laws refl in
    let A = arg (bare (layout heap.the_row)) no heap.the_row in let LA = arg_laws (bare (layout heap.the_row)) no heap.the_row heap_laws.the_row_laws refl in
    let d = dict in
    let dd = impl ("graph_c::Destruct++none::drop" ∷ []) (tcons (layout A) tnil) dnil in
    let E : box.Bx = record { row = T; laws = L; al = record { row = A; laws = LA; g = g; d = d; drops = dd } } in
    let B : RattleType = box.B E in
    let En = f.ended in let c = f.clauses 𝓛 𝓜.mem 𝓡.returns in let fn = code.function in
    let hs : Stays En.signature.params En.kept = (stay_dropped (plain (λ _. handle.the_row)) yes, (stay_dropped (plain (λ _. heap.the_row)) yes, tt)) in
    proved_at 𝓛 En hs c 𝓜 𝓡 (Goes-blank 𝓛 0 (plain (λ _. handle.the_row)) yes (λ κs x f. tt), (Goes-blank 𝓛 0 (plain (λ _. heap.the_row)) yes (λ κs x f. tt), tt)) f.Key.name fn (code.unfolded 𝓤 H 𝓜 𝓡 wired) (λ z are.
    let v = z.0.3.0 in let a = z.0.3.1.0 in let Post : Val → SProp 𝓤 = (walk_of 𝓛 En hs c).post z in let Run : List Val → SProp 𝓤 = λ ws. WpFn 𝓤 H 𝓣.C 𝓣.Λ fn ws Post in
    qed 𝓛 ((‵ ftrue ⊛ ‵ (owns (types_at En.signature.params z.0.0) z.0.3 z.0.4)) ∷ raw (fact 𝓤 (IsSome v.value)) ∷ []) ∵
    split ! $ drop ! $ move ! (1 ∷ []) $ heard ! (IsSome v.value) (λ there. let x = (some_of v.value there).0 in let has : v.value ≡ Some x = (some_of v.value there).1 in fsplit ! $ handle_out ! v z.0.4.0 (λ ws.
    rewrite ! 0 (λ q. ‵ (held_owns v.at q)) has refl $
    in_a_block ! v.at (λ p. held_owns p (Some x)) (fst∗ 𝓤 (never 𝓤) (sem 𝓛 (g.dealloc_token a (bare (layout T)) null_ptr))) (λ b o e.
    move ! (1 ∷ []) $ fsplit ! $ handle_tells E.al ! a z.0.4.1.0 (λ h ea fits.
    let w : Val = word (block_ptr b o) in let at : z.0.4.0 ≡ w ∷ [] = ws ∙ ap (λ (p : Ptr). word p ∷ []) e in
    let k = triple_of 𝓛 (callee.signature T A g d dd) (callee.spec T A g d dd 𝓛 𝓜.mem 𝓡.returns) in
    let toks = ‵ (flft [] full_share) ⊛ ‵ (flft [] full_share) ⊛ ‵ ftrue in
    let y : k.Ghost = ((([], ([], tt)), (full_share, (full_share, tt)), tt, (a, (block_ptr b o, tt)), (h ∷ [], (vptr b o ∷ [], tt))), x) in
    move ! (1 ∷ []) $ feq_i ! (List Val) (vptr b o ∷ []) (vptr b o ∷ []) refl $ fjoin ! $ move ! (1 ∷ 0 ∷ []) $ fjoin ! $
    nothing ! $ use0 𝓛 (‵ (flft [] full_share)) (𝓛.lfts.lft-nil full_share) $ join ! $ use0 𝓛 (‵ (flft [] full_share)) (𝓛.lfts.lft-nil full_share) $ join ! $ join ! $
    move ! (1 ∷ []) $ use0 𝓛 (raw (fact 𝓤 ([] ⊑ A.lives))) (fact_i 𝓤 ([] ⊑ A.lives) (emp 𝓤) (⊑_static [])) $ join ! $ use0 𝓛 (raw (fact 𝓤 ([] ⊑ T.lives))) (fact_i 𝓤 ([] ⊑ T.lives) (emp 𝓤) (⊑_static [])) $ join ! $
    move ! (1 ∷ 0 ∷ []) $ join ! $ use1 𝓛 (raw (k.pre y)) (id⊢ 𝓤 _) $
    suffices ! (Run (w ∷ h ∷ [])) (subst (λ (us : List Val). ent 𝓤 (Run (w ∷ h ∷ [])) (Run us)) (sym (λ i. at i ++ (ea i ++ []))) (id⊢ 𝓤 (Run (w ∷ h ∷ [])))) $
    enter ! 𝓣.C 𝓣.Λ fn (w ∷ h ∷ []) Post $ alloc_all ! (λ l. pass_all ! refl ((tt, (tt, tt)), (fits, tt)) $ let Ev = env fn.locals l in
    sets ! (of_opd ! (get_in ! (fld ! refl (stop !)) (sub ! 0 refl (whole !)))) refl (tt, tt) $ first ! $ blocks ! $
    calls_at_last ! (framed 𝓤 𝓛.H 𝓜 (tables 𝓤 𝓛.H 𝓜 𝓡 𝓡.env)) k (met 𝓤 𝓛 𝓜 𝓡 (code.calls-std_alloc::boxed::Box::from_raw 𝓡.env wired) T A L LA g d dd (impl_met.passed 𝓡.env (code.calls-std_heap::GlobalAllocator::allocate 𝓡.env wired) (code.calls-std_heap::GlobalAllocator::deallocate 𝓡.env wired) (code.calls-std_heap::GlobalAllocator::grow 𝓡.env wired) (code.calls-std_heap::GlobalAllocator::shrink 𝓡.env wired) M 𝓤 𝓛 𝓜 𝓡)
    (glues "graph_c::Destruct++none::drop" 𝓡.env (code.calls-graph_c::Destruct++none::drop 𝓡.env wired) A LA M 𝓤 𝓛 𝓜 𝓡)) y (and_then ! (get ! refl) (and_then ! (get ! refl) (no_more !))) (λ u.
    use1 𝓛 (later (some (λ (r : B.Denot). (toks ⊛ ‵ (B.own_val r (u ∷ []))) ⊛ some (λ (ls : Lasts (callee.ended T A g d dd) y.0.0 y.0.3). ‵ (lasts (callee.ended T A g d dd) y.0.0 y.0.3 ls) ⊛ (raw (fact 𝓤 (r.value ≡ x)) ⊛ raw (fact 𝓤 (r.alloc ≡ a))))))) (id⊢ 𝓤 (k.post y u)) $
    await ! tt $ pick ! (λ r. split ! $ move ! (1 ∷ []) $ pick ! (λ _. split3 ! $ drop ! $ heard ! (r.value ≡ x) (λ same. use0 𝓛 (raw (fact 𝓤 (Some r.value ≡ v.value))) (fact_i 𝓤 (Some r.value ≡ v.value) (emp 𝓤) (ap Some same ∙ sym has)) $ move ! (2 ∷ []) $ split ! $ drop ! $
    box_out E ! r (u ∷ []) (λ b' o' h' e' us fits'. box_in E ! r b' o' r.value e' refl $ rewrite ! 0 (λ (xs : List Val). ‵ (B.own_val r xs)) (sym us) refl $
    let good : Good (layout B) u = subst (Good (layout B)) (sym (ap only us)) (box.box_typed E h' b' o' fits') in
    lands_last ! refl good $ exec ! 𝓣.C 𝓣.Λ Ev (after 2 fn.body) (at_ret Ev Post) $ sets ! (of_opd ! (get ! refl)) refl good $
    nothing ! $ nothing ! $ fjoin ! $ nothing ! $ fjoin ! $ nothing ! $
    returns ! (look_at ! 0 refl) $ free_all ! refl $ keep ! (0 ∷ 1 ∷ 2 ∷ 3 ∷ []) $ by ! (leaves 𝓛 En hs c z u r _ (tt, (tt, tt))))))))))))))
