-- Members that are `readonly` where the value is frozen.
use Rattle.std.specs.Prelude.{ℕ, ◌+◌, Bool, true, false, List, [], ◌∷◌, ◌++◌, length, take, Option, Some, None, option_map, map, if◌then◌else◌, IfSome}
use Rattle.std.proofs.Common.{◌≡◌, refl, sym, ap, subst, ◌∙◌}
use Rattle.std.proofs.lemmas.Bool.{true≢false}
use Rattle.base.specs.declared.range.Range.{Range}
use Rattle.es_token.specs.declared.token.Token.{Token}
use Rattle.es_grammar.specs.declared.rows.NodeKind.{NodeKind}
use Rattle.es_grammar.specs.declared.rows.NodeKind.TheVariants as l
use Rattle.es_ast.specs.declared.ts.leaf.Ident.{Ident}
use Rattle.es_ast.specs.declared.ts.leaf.MethodKind.{MethodKind}
use Rattle.es_ast.specs.declared.ts.leaf.MethodKind.TheVariants as vMethod
use Rattle.es_ast.specs.declared.ts.leaf.TsKey.{TsKey}
use Rattle.es_ast.specs.declared.ts.ts.Nodes.{Nodes}
use Rattle.es_ast.specs.declared.ts.ts.TsFnParam.{TsFnParam}
use Rattle.es_ast.specs.declared.ts.ts.TsType.{TsType}
use Rattle.es_ast.specs.declared.ts.ts.TsType.TheVariants as vType
use Rattle.es_ast.specs.declared.ts.ts.TsType.TheOpen.{TsTypeElement-F}
use Rattle.es_ast.specs.declared.ts.ts.TsTypeParam.{TsTypeParam}
use Rattle.es_ast.specs.declared.ts.ts.TsTypeElement.{TsTypeElement, out-TsTypeElement, out-roll-TsTypeElement}
use Rattle.es_ast.specs.declared.ts.ts.TsTypeElement.TheVariants as vMember
use Rattle.es_lowering.specs.Value.{Value, nil, more, as_group, part, group, is_there, given, optional, turns, type_at, type_key_at, type_member_at, type_params_at, fn_params_at}
use Rattle.es_lowering.specs.Texts.{span_of, ident_at, kind_at}
use Rattle.es_lowering.specs.Operators.{listed, accessor_kinds}
use Rattle.es_lowering.specs.Types as types
use Rattle.es_lowering.specs.TypeMembers as members
use Rattle.es_lowering.specs.Lowering.{same_label, packed, build, type_of, type_member_of}
use Rattle.es_syntax.specs.declared.entry.What.TheVariants as what
use Rattle.es_syntax.specs.declared.cursor.Item.{Item}
use Rattle.es_syntax.specs.Held.{held, valued, node_of}
use Rattle.es_syntax.specs.Roles.{ts_type_in, type_member_in}
use Rattle.es_syntax.specs.Views.{is_one_of}
use Rattle.es_changed.specs.declared.entry.Change.TheVariants as change
use Rattle.es_changed.specs.declared.entry.Form.TheVariants as form
use Rattle.es_changed.specs.declared.entry.ChangedEntry.{ChangedEntry}
use Rattle.es_changed.specs.Formed.{formed, readonly_by, readonly_member}
use Rattle.es_changed.specs.Shape.{closed, opened, Writes}
use Rattle.es_changed.proofs.Written.{nothing_written, gone_written, both_written, form_written, node_written, group_written, taken_back}
use Rattle.es_expr_spans.proofs.Given.{Of, one, none, of_given, of_if, of_other}
use Rattle.dts_rules.specs.Made.{frozen, frozen_member_by, frozen_members}
use Rattle.dts_draft.specs.Written.{IfThere, Puts, PutsAll, Gives}
use Rattle.dts_draft.proofs.Lists.{as_packed, read_turns, puts_none, puts_both}
use Rattle.dts_kept.specs.Kept.{member_labels, in_turn, frozen_member, Something, IsFrozen, IsMember, IsTurn, TurnGives, AllGive}
use Rattle.dts_kept.proofs.TypeForms.{frozen_TypeLit}

-- ---- each form
out_Property : (readonly : Bool) (key : TsKey) (mark : Bool) (ty : Option TsType) (span : Range)
    → out-TsTypeElement (vMember.PropertySignature readonly key mark ty span)
    ≡ TsTypeElement-F.PropertySignature readonly key mark ty span
out_Property readonly key mark ty span =
    ap out-TsTypeElement (sym (vMember.rolls-PropertySignature readonly key mark ty span))
    ∙ out-roll-TsTypeElement (TsTypeElement-F.PropertySignature readonly key mark ty span)

out_Index : (readonly : Bool) (name : Ident) (of : TsType) (ty : Option TsType) (span : Range)
    → out-TsTypeElement (vMember.IndexSignature readonly name of ty span)
    ≡ TsTypeElement-F.IndexSignature readonly name of ty span
out_Index readonly name of ty span =
    ap out-TsTypeElement (sym (vMember.rolls-IndexSignature readonly name of ty span))
    ∙ out-roll-TsTypeElement (TsTypeElement-F.IndexSignature readonly name of ty span)

frozen_Call : (type_params : Option (Nodes TsTypeParam)) (params : List TsFnParam) (ty : Option TsType) (span : Range)
    → frozen_member (vMember.CallSignature type_params params ty span) ≡ None
frozen_Call type_params params ty span =
    ap frozen_member_by (ap out-TsTypeElement (sym (vMember.rolls-CallSignature type_params params ty span))
    ∙ out-roll-TsTypeElement (TsTypeElement-F.CallSignature type_params params ty span))

frozen_Construct : (type_params : Option (Nodes TsTypeParam)) (params : List TsFnParam) (ty : Option TsType)
    (span : Range) → frozen_member (vMember.ConstructSignature type_params params ty span) ≡ None
frozen_Construct type_params params ty span =
    ap frozen_member_by (ap out-TsTypeElement (sym (vMember.rolls-ConstructSignature type_params params ty span))
    ∙ out-roll-TsTypeElement (TsTypeElement-F.ConstructSignature type_params params ty span))

frozen_Method : (kind : MethodKind) (key : TsKey) (mark : Bool) (type_params : Option (Nodes TsTypeParam))
    (params : List TsFnParam) (ty : Option TsType) (span : Range)
    → frozen_member (vMember.MethodSignature kind key mark type_params params ty span) ≡ None
frozen_Method kind key mark type_params params ty span =
    ap frozen_member_by (ap out-TsTypeElement
    (sym (vMember.rolls-MethodSignature kind key mark type_params params ty span))
    ∙ out-roll-TsTypeElement (TsTypeElement-F.MethodSignature kind key mark type_params params ty span))

-- ---- each alternative
abbrev Marked : TsTypeElement → Type 0
Marked m = frozen_member m ≡ Some (readonly_member m)

abbrev Already : TsTypeElement → Type 0
Already m = frozen_member m ≡ Some m

abbrev Never : TsTypeElement → Type 0
Never m = frozen_member m ≡ None

property_marks : (readonly : Bool) (key : TsKey) (mark : Bool) (ty : Option TsType) (span : Range)
    → Marked (vMember.PropertySignature readonly key mark ty span)
unfolding readonly_member
property_marks readonly key mark ty span =
    ap frozen_member_by (out_Property readonly key mark ty span)
    ∙ ap Some (sym (ap (readonly_by (vMember.PropertySignature readonly key mark ty span))
    (out_Property readonly key mark ty span)))

index_marks : (readonly : Bool) (name : Ident) (of : TsType) (ty : Option TsType) (span : Range)
    → Marked (vMember.IndexSignature readonly name of ty span)
unfolding readonly_member
index_marks readonly name of ty span =
    ap frozen_member_by (out_Index readonly name of ty span)
    ∙ ap Some (sym (ap (readonly_by (vMember.IndexSignature readonly name of ty span))
    (out_Index readonly name of ty span)))

property_of : (readonly : Bool) (r : Range) (p : Value) → Of Marked (members.property_by readonly r p)
unfolding members.property_by
property_of readonly r p =
    of_given Marked (type_key_at p 0) (λ key.
    of_given Marked (optional type_at (group p 2)) (λ ty.
    one Marked (property_marks readonly key (is_there (group p 1)) ty r)))

readonly_of : (r : Range) (p : Value) → Of Already (members.property_by true r p)
unfolding members.property_by
readonly_of r p =
    of_given Already (type_key_at p 0) (λ key.
    of_given Already (optional type_at (group p 2)) (λ ty.
    one Already (ap frozen_member_by (out_Property true key (is_there (group p 1)) ty r))))

index_of : (x : List ℕ) (ts : List Token) (r : Range) (p : Value) → Of Marked (members.index_signature x ts r p)
unfolding members.index_signature
index_of x ts r p =
    of_given Marked (ident_at x ts p 1) (λ name.
    of_given Marked (type_at p 2) (λ of.
    of_given Marked (optional type_at (group p 3)) (λ ty.
    one Marked (index_marks (is_there (group p 0)) name of ty r))))

index_there : (x : List ℕ) (ts : List Token) (r : Range) (p : Value) → is_there (group p 0) ≡ true
    → Of Already (members.index_signature x ts r p)
unfolding members.index_signature
index_there x ts r p e =
    of_given Already (ident_at x ts p 1) (λ name.
    of_given Already (type_at p 2) (λ of.
    of_given Already (optional type_at (group p 3)) (λ ty.
    one Already (ap frozen_member_by (out_Index (is_there (group p 0)) name of ty r)
    ∙ ap (λ (b : Bool). Some (vMember.IndexSignature b name of ty r)) (sym e)))))

call_of : (r : Range) (p : Value) → Of Never (members.call_signature r p)
unfolding members.call_signature
call_of r p =
    of_given Never (optional type_params_at (group p 0)) (λ type_params.
    of_given Never (fn_params_at p 1) (λ params.
    of_given Never (optional type_at (group p 2)) (λ ty. one Never (frozen_Call type_params params ty r))))

construct_of : (r : Range) (p : Value) → Of Never (members.construct_signature r p)
unfolding members.construct_signature
construct_of r p =
    of_given Never (optional type_params_at (group p 0)) (λ type_params.
    of_given Never (fn_params_at p 1) (λ params.
    of_given Never (optional type_at (group p 2)) (λ ty. one Never (frozen_Construct type_params params ty r))))

method_of : (kind : MethodKind) (r : Range) (p : Value) (n : ℕ) → Of Never (members.method_by kind r p n)
unfolding members.method_by
method_of kind r p n =
    of_given Never (type_key_at p n) (λ key.
    of_given Never (optional type_params_at (group p (n + 2))) (λ type_params.
    of_given Never (fn_params_at p (n + 3)) (λ params.
    of_given Never (optional type_at (group p (n + 4))) (λ ty.
    one Never (frozen_Method kind key (is_there (group p (n + 1))) type_params params ty r)))))

accessor_of : (ts : List Token) (r : Range) (p : Value) → Of Never (members.accessor_signature ts r p)
unfolding members.accessor_signature
accessor_of ts r p =
    of_given Never (given (kind_at ts p 0) (listed accessor_kinds)) (λ kind. method_of kind r p 1)

first : (b rest : Bool) → (if b then true else rest) ≡ false → (b ≡ false) × (rest ≡ false)
first true rest e = let bad : ⊥ = cc in absurd bad
first false rest e = (refl, e)

other_of : (x : List ℕ) (ts : List Token) (label : NodeKind) (r : Range) (p : Value)
    → is_one_of member_labels label ≡ false → Of Never (type_member_of x ts label r p)
unfolding type_member_of
other_of x ts label r p e =
    let a = first (same_label label l.IndexSignature) _ e in
    let b = first (same_label label l.PropertySignature) _ a.1 in
    let c = first (same_label label l.ReadonlyProperty) _ b.1 in
    of_if Never (same_label label l.CallSignature) (call_of r p)
    (of_if Never (same_label label l.ConstructSignature) (construct_of r p)
    (of_other Never (same_label label l.IndexSignature) (members.index_signature x ts r p) a.0
    (of_if Never (same_label label l.AccessorSignature) (accessor_of ts r p)
    (of_if Never (same_label label l.MethodSignature) (method_of vMethod.Method r p 0)
    (of_other Never (same_label label l.PropertySignature) (members.property_by false r p) b.0
    (of_other Never (same_label label l.ReadonlyProperty) (members.property_by true r p) c.0 (none Never)))))))

module _ (x : List ℕ) (ts : List Token) where
  -- ---- what is written of a member
  stays : (old new : List ChangedEntry) (v : Value) (o : Option TsTypeElement) → type_member_in v ≡ o → Of Already o
      → Writes x ts old new (v ∷ []) → IfThere (IsMember x ts old new true) (type_member_in v)
  stays old new v None e h w = subst (λ o. IfThere (IsMember x ts old new true) o) (sym e) (record { is = tt })
  stays old new v (Some m) e h w =
      subst (λ o. IfThere (IsMember x ts old new true) o) (sym e) (record {
        is = subst (Gives x ts type_member_in old new true) (sym h.is)
            (refl, record { value = v; writes = w; is = e });
      })

  mark_read : (v : Value) → type_member_in (formed x ts form.ReadonlyMember 0 0 (packed (v ∷ [])))
      ≡ option_map readonly_member (type_member_in v)
  mark_read v = refl

  becomes : (old new : List ChangedEntry) (v : Value) (o : Option TsTypeElement) → type_member_in v ≡ o → Of Marked o
      → Writes x ts old new (formed x ts form.ReadonlyMember 0 0 (packed (v ∷ [])) ∷ [])
      → IfThere (IsMember x ts old new true) (type_member_in v)
  becomes old new v None e h w = subst (λ o. IfThere (IsMember x ts old new true) o) (sym e) (record { is = tt })
  becomes old new v (Some m) e h w =
      subst (λ o. IfThere (IsMember x ts old new true) o) (sym e) (record {
        is = subst (Gives x ts type_member_in old new true) (sym h.is) (
          refl,
          record {
            value = formed x ts form.ReadonlyMember 0 0 (packed (v ∷ []));
            writes = w;
            is = mark_read v ∙ ap (option_map readonly_member) e;
          },
        );
      })

  pub property_marked : (old new : List ChangedEntry) (v : Value) (r : Range) (p : Value)
      → Writes x ts old new (formed x ts form.ReadonlyMember 0 0 (packed (v ∷ [])) ∷ [])
      → type_member_in v ≡ type_member_of x ts l.PropertySignature r p
      → IfThere (IsMember x ts old new true) (type_member_in v)
  unfolding type_member_of
  property_marked old new v r p w e = becomes old new v _ e (property_of false r p) w

  pub property_already : (old new : List ChangedEntry) (v : Value) (r : Range) (p : Value)
      → Writes x ts old new (v ∷ []) → type_member_in v ≡ type_member_of x ts l.ReadonlyProperty r p
      → IfThere (IsMember x ts old new true) (type_member_in v)
  unfolding type_member_of
  property_already old new v r p w e = stays old new v _ e (readonly_of r p) w

  pub index_marked : (old new : List ChangedEntry) (v : Value) (r : Range) (p : Value)
      → Writes x ts old new (formed x ts form.ReadonlyMember 0 0 (packed (v ∷ [])) ∷ [])
      → type_member_in v ≡ type_member_of x ts l.IndexSignature r p
      → IfThere (IsMember x ts old new true) (type_member_in v)
  unfolding type_member_of
  index_marked old new v r p w e = becomes old new v _ e (index_of x ts r p) w

  pub index_already : (old new : List ChangedEntry) (v : Value) (r : Range) (p : Value) → is_there (group p 0) ≡ true
      → Writes x ts old new (v ∷ []) → type_member_in v ≡ type_member_of x ts l.IndexSignature r p
      → IfThere (IsMember x ts old new true) (type_member_in v)
  unfolding type_member_of
  index_already old new v r p there w e = stays old new v _ e (index_there x ts r p there) w

  pub member_none : (old : List ChangedEntry) (i : Item) (label : NodeKind) → i.what ≡ what.Node label
      → is_one_of member_labels label ≡ false → IfThere (IsMember x ts old old false) (type_member_in (valued x ts i))
  unfolding build
  member_none old i label is e =
      subst (λ w. IfThere (IsMember x ts old old false)
      (type_member_in (valued x ts (record { what = w; from = i.from; to = i.to; parts = i.parts })))) (sym is)
      (go (type_member_of x ts label (span_of ts i.from i.to) (held x ts i.parts.entries.now))
      (other_of x ts label (span_of ts i.from i.to) (held x ts i.parts.entries.now) e))
    where
      go : (o : Option TsTypeElement) → Of Never o → IfThere (IsMember x ts old old false) o
      go None h = record { is = tt }
      go (Some m) h = record {
        is = subst (Gives x ts type_member_in old old false) (sym h.is) (refl, nothing_written x ts old);
      }

  pub member_own : (old new : List ChangedEntry) (wrote : Bool) (i : Item) (label : NodeKind)
      → i.what ≡ what.Node label
      → (type_member_in (valued x ts i)
      ≡ type_member_of x ts label (span_of ts i.from i.to) (held x ts i.parts.entries.now)
      → IfThere (IsMember x ts old new wrote) (type_member_in (valued x ts i)))
      → IfThere (IsMember x ts old new wrote) (type_member_in (valued x ts i))
  unfolding build
  member_own old new wrote i label is h =
      h (ap (λ w. type_member_in (valued x ts (record { what = w; from = i.from; to = i.to; parts = i.parts }))) is)

  -- ---- in a turn
  pub member_turned : {begun new : List ChangedEntry} {place : ℕ} (old mid : List ChangedEntry) (b : Bool)
      (o p : Option TsTypeElement) → begun ≡ old ++ opened → place ≡ length old
      → IfThere (IsMember x ts begun mid b) o → new ≡ closed (change.Old what.Parts) 0 0 place mid → p ≡ o
      → IfThere (IsTurn x ts old new b) p
  member_turned {begun = begun} {new = new} {place = place} old mid b o p eo ep h c e =
      subst (λ o. IfThere (IsTurn x ts old new b) o) (sym e) (by o h)
    where
      go : (f : Option TsTypeElement) → Gives x ts type_member_in begun mid b f → TurnGives x ts old new b f
      go (Some f) g = (
        g.0,
        record {
          value = packed (g.1.value ∷ []);
          writes = group_written x ts 0 0 place old begun mid new (g.1.value ∷ []) eo ep g.1.writes c;
          is = g.1.is;
        },
      )
      go None g = (
        g.0,
        record { values = packed [] ∷ []; writes = group_written x ts 0 0 place old begun mid new [] eo ep g.1 c },
      )

      by : (o : Option TsTypeElement) → IfThere (IsMember x ts begun mid b) o → IfThere (IsTurn x ts old new b) o
      by None h = record { is = tt }
      by (Some m) h = record { is = go (frozen_member m) h.is }

  -- ---- all of them
  both_frozen : (m f : TsTypeElement) (ms fs : List TsTypeElement) → frozen_member m ≡ Some f
      → frozen_members ms ≡ Some fs → frozen_members (m ∷ ms) ≡ Some (f ∷ fs)
  both_frozen m f ms fs e h = rw (e, h) refl

  rest_none : (m f : TsTypeElement) (ms : List TsTypeElement) → frozen_member m ≡ Some f → frozen_members ms ≡ None
      → frozen_members (m ∷ ms) ≡ None
  rest_none m f ms e h = rw (e, h) refl

  first_none : (m : TsTypeElement) (ms : List TsTypeElement) → frozen_member m ≡ None
      → frozen_members (m ∷ ms) ≡ None
  first_none m ms e = rw e refl

  abbrev pub All : List ChangedEntry → List ChangedEntry → Bool → Option (List TsTypeElement) → Type 0
  All old new wrote o = IfThere (λ ms. AllGive x ts old new wrote (frozen_members ms)) o

  one_more : (old mid new : List ChangedEntry) (wrote : Bool) (o : Option TsTypeElement)
      (os : Option (List TsTypeElement)) → IfThere (IsTurn x ts old mid true) o → All mid new wrote os
      → All old new wrote (given o (λ a. given os (λ rest. Some (a ∷ rest))))
  one_more old mid new wrote None os p q = record { is = tt }
  one_more old mid new wrote (Some m) None p q = record { is = tt }
  one_more old mid new wrote (Some m) (Some ms) p q =
      record { is = go (frozen_member m) refl (frozen_members ms) refl p.is q.is }
    where
      go : (f : Option TsTypeElement) → frozen_member m ≡ f → (fs : Option (List TsTypeElement))
          → frozen_members ms ≡ fs → TurnGives x ts old mid true f → AllGive x ts mid new wrote fs
          → AllGive x ts old new wrote (frozen_members (m ∷ ms))
      go (Some f) e (Some fs) h a b =
          subst (AllGive x ts old new wrote) (sym (both_frozen m f ms fs e h)) (
            b.0,
            puts_both x ts in_turn old mid new (f ∷ []) fs
                (record { values = a.1.value ∷ []; writes = a.1.writes; are = ap (λ o. o ∷ []) a.1.is }) b.1,
          )
      go (Some f) e None h a b =
          subst (AllGive x ts old new wrote) (sym (rest_none m f ms e h)) (
            b.0,
            record {
              values = a.1.value ∷ b.1.values;
              writes = both_written x ts old mid new (a.1.value ∷ []) b.1.values a.1.writes b.1.writes;
            },
          )
      go None e fs h a b = absurd (true≢false a.0)

  one_ends : (old new : List ChangedEntry) (o : Option TsTypeElement) (os : Option (List TsTypeElement))
      → IfThere (IsTurn x ts old new false) o
      → All old new false (given o (λ a. given os (λ rest. Some (a ∷ rest))))
  one_ends old new None os p = record { is = tt }
  one_ends old new (Some m) None p = record { is = tt }
  one_ends old new (Some m) (Some ms) p = record { is = go (frozen_member m) refl p.is }
    where
      go : (f : Option TsTypeElement) → frozen_member m ≡ f → TurnGives x ts old new false f
          → AllGive x ts old new false (frozen_members (m ∷ ms))
      go (Some f) e a = absurd (true≢false (sym a.0))
      go None e a = subst (AllGive x ts old new false) (sym (first_none m ms e)) (refl, a.1)

  -- what is left leads to all
  pub record MembersLeft (start now : List ChangedEntry) (all left : Value) : Type 0 where
    pub leads : (new : List ChangedEntry) (wrote : Bool)
        → All now new wrote (turns (λ turn. type_member_at turn 0) left)
        → All start new wrote (turns (λ turn. type_member_at turn 0) all)

  pub members_all : (start : List ChangedEntry) (all : Value) → MembersLeft start start all all
  members_all start all = record { leads = λ new wrote h. h }

  pub members_next : {start now next : List ChangedEntry} {all left v rest : Value} {b : Bool} → left ≡ more v rest
      → MembersLeft start now all left → b ≡ true → IfThere (IsTurn x ts now next b) (type_member_at (as_group v) 0)
      → MembersLeft start next all rest
  members_next {start = start} {now = now} {next = next} {all = all} {left = left} {v = v} {rest = rest} {b = b} e
      before is p =
      record {
        leads = λ new wrote h.
            before.leads new wrote (subst (λ (w : Value). All now new wrote (turns (λ turn. type_member_at turn 0) w))
            (sym e) (one_more now next new wrote (type_member_at (as_group v) 0)
            (turns (λ turn. type_member_at turn 0) rest)
            (subst (λ b. IfThere (IsTurn x ts now next b) (type_member_at (as_group v) 0)) is p) h));
      }

  pub members_end : {start now : List ChangedEntry} {all left v rest : Value} {b : Bool} (next : List ChangedEntry)
      → left ≡ more v rest
      → MembersLeft start now all left → b ≡ false → IfThere (IsTurn x ts now next b) (type_member_at (as_group v) 0)
      → All start next false (turns (λ turn. type_member_at turn 0) all)
  members_end {start = start} {now = now} {all = all} {left = left} {v = v} {rest = rest} {b = b} next e before is p =
      before.leads next false (subst (λ (w : Value). All now next false (turns (λ turn. type_member_at turn 0) w))
      (sym e) (one_ends now next (type_member_at (as_group v) 0) (turns (λ turn. type_member_at turn 0) rest)
      (subst (λ b. IfThere (IsTurn x ts now next b) (type_member_at (as_group v) 0)) is p)))

  pub members_done : {start now : List ChangedEntry} {all left : Value} → left ≡ nil → MembersLeft start now all left
      → All start now true (turns (λ turn. type_member_at turn 0) all)
  members_done {start = start} {now = now} {all = all} {left = left} e before =
      before.leads now true (subst (λ (w : Value). All now now true (turns (λ turn. type_member_at turn 0) w)) (sym e)
      (record { is = (refl, puts_none x ts in_turn now) }))

  -- ---- a type in braces
  braces_read : (from to : ℕ) (vs : List Value) (fs : List TsTypeElement) → map in_turn vs ≡ map Some fs
      → ts_type_in (node_of x ts l.MembersType from to (packed (packed vs ∷ [])))
      ≡ Some (vType.TypeLit fs (span_of ts from to))
  unfolding build type_of types.members_type
  braces_read from to vs fs e =
      ap (λ w. option_map (λ ms. vType.TypeLit ms (span_of ts from to)) (turns (λ turn. type_member_at turn 0) w))
      (as_packed vs)
      ∙ ap (option_map (λ ms. vType.TypeLit ms (span_of ts from to)))
      (read_turns (λ turn. type_member_at turn 0) vs fs e)

  pub braces_written : {past begun inner turned new : List ChangedEntry} {place group_at : ℕ} {b : Bool}
      (old mid : List ChangedEntry) (v : Value) (from to : ℕ) (p row : Value) → Writes x ts old past []
      → begun ≡ past ++ opened → place ≡ length past → inner ≡ begun ++ opened → group_at ≡ length begun
      → b ≡ true → All inner mid b (turns (λ turn. type_member_at turn 0) row)
      → turned ≡ closed (change.Old what.Parts) 0 0 group_at mid
      → new ≡ closed (change.Old (what.Node l.MembersType)) from to place turned → row ≡ group p 0
      → ts_type_in v ≡ type_of x ts l.MembersType (span_of ts from to) p
      → IfThere (IsFrozen x ts old new true) (ts_type_in v)
  unfolding type_of types.members_type
  braces_written {past = past} {begun = begun} {inner = inner} {turned = turned} {new = new}
      {place = place} {group_at = group_at} {b = b} old mid v from to p row gone eb ep ei eg is all ct cn er e =
      subst (λ o. IfThere (IsFrozen x ts old new true) o) (sym e)
      (by (turns (λ turn. type_member_at turn 0) (group p 0))
      (subst (λ (w : Value). All inner mid true (turns (λ turn. type_member_at turn 0) w)) er
      (subst (λ b. All inner mid b (turns (λ turn. type_member_at turn 0) row)) is all)))
    where
      go : (ms : List TsTypeElement) (o : Option (List TsTypeElement)) → AllGive x ts inner mid true o
          → Gives x ts ts_type_in old new true (option_map (λ ms. vType.TypeLit ms (span_of ts from to)) o)
      go ms (Some fs) a = (
        refl,
        record {
          value = node_of x ts l.MembersType from to (packed (packed a.1.values ∷ []));
          writes = both_written x ts old past new [] _ gone
              (node_written x ts l.MembersType from to place past begun turned new (packed a.1.values ∷ []) eb ep
              (group_written x ts 0 0 group_at begun inner mid turned a.1.values ei eg a.1.writes ct) cn);
          is = braces_read from to a.1.values fs a.1.are;
        },
      )
      go ms None a = absurd (true≢false a.0)

      by : (o : Option (List TsTypeElement)) → All inner mid true o
          → IfThere (IsFrozen x ts old new true) (option_map (λ ms. vType.TypeLit ms (span_of ts from to)) o)
      by None a = record { is = tt }
      by (Some ms) a = record {
        is = subst (Gives x ts ts_type_in old new true) (sym (frozen_TypeLit ms (span_of ts from to)))
            (go ms (frozen_members ms) a.is);
      }

  pub braces_none : {past begun inner new : List ChangedEntry} {start : ℕ} {b : Bool}
      (old mid : List ChangedEntry) (v : Value) (from to : ℕ) (p row : Value) → start ≡ length old
      → Writes x ts old past []
      → begun ≡ past ++ opened → inner ≡ begun ++ opened
      → b ≡ false → All inner mid b (turns (λ turn. type_member_at turn 0) row) → new ≡ take start mid → row ≡ group p 0
      → ts_type_in v ≡ type_of x ts l.MembersType (span_of ts from to) p
      → IfThere (IsFrozen x ts old new false) (ts_type_in v)
  unfolding type_of types.members_type
  braces_none {past = past} {begun = begun} {inner = inner} {new = new} {start = start} {b = b} old mid v from to p
      row es gone eb ei is all t er e =
      subst (λ o. IfThere (IsFrozen x ts old new false) o) (sym e)
      (by (turns (λ turn. type_member_at turn 0) (group p 0))
      (subst (λ (w : Value). All inner mid false (turns (λ turn. type_member_at turn 0) w)) er
      (subst (λ b. All inner mid b (turns (λ turn. type_member_at turn 0) row)) is all)))
    where
      back : (s : Something x ts inner mid) → new ≡ old
      back s =
          t ∙ (ap (λ (n : ℕ). take n mid) es ∙ taken_back x ts old mid s.values
          (both_written x ts old past mid [] s.values gone
          (both_written x ts past begun mid [] s.values (gone_written x ts 0 0 past begun eb)
          (both_written x ts begun inner mid [] s.values (gone_written x ts 0 0 begun inner ei) s.writes))))

      go : (o : Option (List TsTypeElement)) → AllGive x ts inner mid false o
          → Gives x ts ts_type_in old new false (option_map (λ ms. vType.TypeLit ms (span_of ts from to)) o)
      go (Some fs) a = absurd (true≢false (sym a.0))
      go None a = (
        refl,
        subst (λ (es : List ChangedEntry). Writes x ts old es []) (sym (back a.1)) (nothing_written x ts old),
      )

      by : (o : Option (List TsTypeElement)) → All inner mid false o
          → IfThere (IsFrozen x ts old new false) (option_map (λ ms. vType.TypeLit ms (span_of ts from to)) o)
      by None a = record { is = tt }
      by (Some ms) a = record {
        is = subst (Gives x ts ts_type_in old new false) (sym (frozen_TypeLit ms (span_of ts from to)))
            (go (frozen_members ms) a.is);
      }
