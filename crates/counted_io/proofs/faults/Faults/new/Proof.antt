-- A value of no bytes is made, at the count 0.
use Rattle.std.proofs.Common.{[], ◌∷◌, refl}
use mir.Val.{Val, vstruct, vcons, vnil}
use contract.Running.{tables, tables_of}
use prog.Wp.{Tables, WpFn}
use sound.WpLaws.{WpFn-mono}
use types.Kit.{raw, ◌$◌, ◌∵◌, !, qed, keep, join, suffices, done}
use types.Run.{no_more, and_then, returns, enter}
use types.Part.{agg}
use types.ByLocal.{alloc_all, pass_all, free_all, look_at, get, sets}
use denote.Shadow.{pure_i}
use denote.Steps.{nothing}
use denote.Triple.Entry.{on_entry}
use denote.Triple.Spec.{triple_of}
use denote.Triple.Table.{entered}
use denote.Triple.Walked.{says, ends_at, walked, walk_Meets}
use Rattle.counted_io.specs.declared.faults.Faults.{Faults}
use Rattle.counted_io.specs.contracts.faults.Faults.{the_row}
use Rattle.counted_io.specs.contracts.faults.Faults.new as f
use Rattle.counted_io.proofs.faults.Faults.new.Statement.{statement}
use Rattle.counted_io.proofs.faults.Faults.new.Code as code

abbrev made : Val
made = vstruct (vcons (vstruct vnil) vnil)

abbrev none_yet : Faults
none_yet = record { marker = record {}; count = 0 }

pub new_spec : {M : Type 1} → statement M
unfolding tables_of
new_spec 𝓤 𝓛 𝓜 𝓡 wired =
    let c = f.clauses 𝓛 𝓜.mem 𝓡.returns in
    let T : Tables 𝓤 𝓛.H = tables_of 𝓤 𝓛.H 𝓜 (tables 𝓤 𝓛.H 𝓜 𝓡 𝓡.env) in
    let runs = WpFn 𝓤 𝓛.H T.C T.Λ code.function in
    entered 𝓤 𝓛.H (triple_of 𝓛 f.signature (f.spec 𝓛 𝓜.mem 𝓡.returns)) T.C T.Λ f.Key.name code.function
    (code.unfolded 𝓤 𝓛.H 𝓜 𝓡 wired)
    (walk_Meets 𝓛 f.ended tt tt c runs (WpFn-mono 𝓤 𝓛.H 𝓛.laws T code.function)
    (walked 𝓛 f.ended tt c runs (λ κs. tt) (λ κs. tt) (λ κs qs bounds a g _.
    qed 𝓛 (raw (on_entry 𝓛 f.signature κs qs a tt) ∷ raw ((c κs a).requires g) ∷ []) ∵ keep ! [] $
    enter ! T.C T.Λ code.function [] _ $ alloc_all ! (λ l. pass_all ! refl tt $
    sets ! (agg ! (no_more !)) refl (tt, tt) $
    sets ! (agg ! (and_then ! (get ! refl) (no_more !))) refl (tt, (tt, tt)) $
    returns ! (look_at ! 0 refl) $ free_all ! refl $
    pure_i ! (the_row.own_val none_yet (made ∷ [])) ((λ vss. (tt, ((λ uss. (tt, tt)), tt))), tt)
    (((vstruct vnil ∷ [], tt), (refl, ((tt, (refl, tt)), tt))), tt) $
    suffices ! _ (ends_at 𝓛 f.ended tt c ((κs, qs, bounds, a, tt), g) made none_yet tt tt) $ says ! refl $
    nothing ! $ join ! $ nothing ! $ done !))))
