-- The body is empty: the borrow is opened, and closed at a count one higher.
use Rattle.std.proofs.Common.{List, [], ◌∷◌, ◌+◌, refl}
use mir.Syntax.{named}
use mir.Val.{Val, vunit, vptr}
use base.Logic.{emp, fst∗, via, id⊢}
use base.Fml.{ftrue, flft}
use contract.Running.{tables, tables_of}
use prog.Wp.{Tables, WpFn}
use sound.WpLaws.{WpFn-mono}
use types.Kit.{‵, ◌⊛◌, ◌$◌, ◌∵◌, !, qed, move, keep, use1, split, join, fsplit, fsplit3, fjoin, fjoin3, feq_i, suffices, frame, done}
use types.Run.{unit_lit, of_opd, returns, enter}
use types.ByLocal.{alloc_all, pass_all, free_all, look_at, sets}
use denote.RattleType.{owns}
use denote.Ref.{MutRef, mut_vals, mut_Tells}
use denote.Signature.{plain}
use denote.Steps.{opens, closes, nothing}
use denote.Triple.Spec.{triple_of}
use denote.Triple.Table.{entered}
use denote.Triple.Walked.{says, Stays, stay_ref, Goes-ref, ends_at, walked, walk_Meets}
use Rattle.counted_io.specs.contracts.faults.Faults.{the_row}
use Rattle.counted_io.specs.contracts.faults.Faults.rise as f
use Rattle.counted_io.proofs.faults.Faults.rise.Statement.{statement}
use Rattle.counted_io.proofs.faults.Faults.rise.Code as code

abbrev stayed : Stays f.ended.signature.params f.ended.kept
stayed = (stay_ref (0 ∷ []) tt (plain (λ _. the_row)), tt)

pub rise_spec : {M : Type 1} → statement M
unfolding tables_of
rise_spec 𝓤 𝓛 𝓜 𝓡 wired =
    let c = f.clauses 𝓛 𝓜.mem 𝓡.returns in
    let T : Tables 𝓤 𝓛.H = tables_of 𝓤 𝓛.H 𝓜 (tables 𝓤 𝓛.H 𝓜 𝓡 𝓡.env) in
    let runs = WpFn 𝓤 𝓛.H T.C T.Λ code.function in
    entered 𝓤 𝓛.H (triple_of 𝓛 f.signature (f.spec 𝓛 𝓜.mem 𝓡.returns)) T.C T.Λ f.Key.name code.function
    (code.unfolded 𝓤 𝓛.H 𝓜 𝓡 wired)
    (walk_Meets 𝓛 f.ended stayed (Goes-ref 𝓛 1 0 tt (plain (λ _. the_row)), tt) c runs
    (WpFn-mono 𝓤 𝓛.H 𝓛.laws T code.function)
    (walked 𝓛 f.ended stayed c runs (λ κs. (mut_vals, tt)) (λ κs. (mut_Tells (named 0) κs.0 the_row, tt))
    (λ κs qs bounds a g are.
    via 𝓤 _ (fst∗ 𝓤 _ (emp 𝓤)) (
    let b = a.0.ref_ptr.0 in let o = a.0.ref_ptr.1 in let old = a.0.now in let new =
    record old { count = old.count + 1 } in
    let vs : List Val = vptr b o ∷ [] in
    qed 𝓛 ((‵ (flft κs.0 qs.0) ⊛ ‵ ftrue) ∷ ‵ (owns (MutRef (named 0) κs.0 the_row ∷ []) a (vs, tt)) ∷ []) ∵
    split ! $ move ! (2 ∷ []) $ fsplit ! $ fsplit3 ! $ keep ! (1 ∷ 2 ∷ 4 ∷ []) $
    enter ! T.C T.Λ code.function vs _ $ alloc_all ! (λ l. pass_all ! refl ((tt, tt), tt) $
    opens ! tt the_row {h = old} b o (λ us.
    sets ! (of_opd ! (unit_lit !)) refl (tt, tt) $
    move ! (1 ∷ []) $ use1 𝓛 (‵ (the_row.own_val new us)) (id⊢ 𝓤 _) $ move ! (1 ∷ 0 ∷ []) $ closes ! tt the_row new us
    b o $
    returns ! (look_at ! 0 refl) $ free_all ! refl $ keep ! (0 ∷ 1 ∷ 2 ∷ []) $
    suffices ! _ (ends_at 𝓛 f.ended stayed c ((κs, qs, bounds, a, (vs, tt)), g) vunit tt (new, tt) (tt, tt)) $ says !
    refl $
    move ! (2 ∷ []) $ nothing ! $ move ! (1 ∷ 0 ∷ []) $ join ! $ frame ! $
    feq_i ! (List Val) vs vs refl $ fjoin3 ! $ nothing ! $ move ! (1 ∷ 0 ∷ []) $ fjoin ! $
    feq_i ! (List Val) (vunit ∷ []) (vunit ∷ []) refl $ move ! (1 ∷ 0 ∷ []) $ done !))))))
