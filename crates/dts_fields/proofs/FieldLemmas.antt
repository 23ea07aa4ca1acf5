-- Fields, and what is written of them.
use Rattle.std.specs.Prelude.{ℕ, Bool, true, false, List, [], ◌∷◌, ◌++◌, Option, Some, None, option_map, length, slice_get, IfSome}
use Rattle.std.proofs.Common.{◌≡◌, refl, sym, ap, subst, ◌∙◌}
use Rattle.std.proofs.lemmas.Bool.{true≢false}
use Rattle.base.specs.declared.range.Range.{Range}
use Rattle.es_token.specs.declared.token.Token.{Token}
use Rattle.es_token.specs.declared.token.TokenKind.{TokenKind}
use Rattle.es_token.specs.declared.token.TokenKind.TheVariants as k
use Rattle.grammar_theory.specs.Key.{same_kind}
use Rattle.es_grammar.specs.declared.rows.NodeKind.TheVariants as l
use Rattle.es_ast.specs.declared.ts.ts.TsPart.{TsPart}
use Rattle.es_ast.specs.declared.ts.ts.TsPart.TheVariants as vPart
use Rattle.es_ast.specs.declared.ts.ts.TsType.{TsType}
use Rattle.es_ast.specs.declared.leaf.Modifiers.{Modifiers}
use Rattle.es_ast.specs.declared.ast.ClassMember.{ClassMember, roll-ClassMember}
use Rattle.es_ast.specs.declared.ast.ClassMember.TheVariants as vMember
use Rattle.es_ast.specs.declared.ast.ClassMember.TheOpen.{ClassMember-F}
use Rattle.es_ast.specs.declared.ast.Expr.{Expr}
use Rattle.es_site.specs.Parts.{Whole}
use Rattle.es_lowering.specs.Value.{Value, nil, more, given, part, as_group, group, is_there, optional, expr_at, key_at, type_at}
use Rattle.es_lowering.specs.Texts.{kind_at, span_of, token_at}
use Rattle.es_lowering.specs.Functions.{plain, Key}
use Rattle.es_lowering.specs.Classes.{field_member, modified}
use Rattle.es_lowering.specs.TypedFunctions.{typed_field, is_mark, with_accessor}
use Rattle.es_lowering.specs.TypedParts.{annotation_at, modifiers_in}
use Rattle.es_lowering.specs.Lowering.{build, member_of, packed}
use Rattle.es_syntax.specs.declared.entry.What.TheVariants as vWhat
use Rattle.es_syntax.specs.Held.{node_of}
use Rattle.es_syntax.specs.Roles.{expr_in, key_in, member_in, ts_type_in}
use Rattle.es_changed.specs.declared.entry.Change.TheVariants as change
use Rattle.es_changed.specs.declared.entry.Form.TheVariants as form
use Rattle.es_changed.specs.declared.entry.Word.TheVariants as word
use Rattle.es_changed.specs.declared.entry.ChangedEntry.{ChangedEntry}
use Rattle.es_changed.specs.Changed.{type_node}
use Rattle.es_changed.specs.Formed.{formed, word_type}
use Rattle.es_changed.specs.Shape.{closed, opened, Writes}
use Rattle.es_changed.proofs.Written.{nothing_written, both_written, form_written, group_written, node_written}
use Rattle.dts_rules.specs.Made.{any_type, annotation}
use Rattle.dts_rules.specs.Rules as rules
use Rattle.dts_rules.specs.Rules.{State, after, undeclared}
use Rattle.dts_rules.specs.Programs.{any_silently, field, in_class_member, shown_expr, shown_member, unless_}
use Rattle.dts_rules.proofs.Shown.{at_member, beside_member}
use Rattle.dts_draft.specs.declared.draft.Draft.{Draft}
use Rattle.dts_draft.specs.Drafts.{is_kind, state_of}
use Rattle.dts_draft.specs.Written.{IfThere, Puts, Gives}
use Rattle.dts_draft.proofs.There.{lifted}
use Rattle.dts_leaves.proofs.Words.{kind_of}
use Rattle.dts_types.specs.declared.ask.Ask.{Ask}
use Rattle.dts_types.specs.Types.{Answers, Infers}
use Rattle.dts_parts.specs.Groups.{annotation_in}
use Rattle.dts_member_keys.specs.Keys.{key_rule, KeyPut}
use Rattle.dts_fields.specs.Fields.{type_rule, FieldPut, FieldTyped, Marks, MemberMade, Silently, UndeclaredGroup}

module _ (by : rules.Env) where
  abbrev Wide : Ask
  Wide = record { literal = false; readonly = false; frozen = false }

  -- ---- what the rules make of a field
  shown_is : (it : ClassMember) (w : Whole ClassMember-F) → roll-ClassMember w ≡ it
      → shown_member by it ≡ in_class_member by (beside_member by w)
  shown_is it w rolls = ap (shown_member by) (sym rolls) ∙ at_member by w

  prop_is : (m : Modifiers) (key : Key) (mark definite : Bool) (own : Option TsPart) (value : Option Expr) (r : Range)
      (s : State) → shown_member by (vMember.Prop m key.0 key.1 mark definite own value r) s
      ≡ unless_ by m.accessor
      (field by m mark r own (option_map (λ (e : Expr). (e, shown_expr by e)) value) (key_rule by key)) s
  prop_is m key mark definite own None r s =
      ap (λ (run : State → Option ClassMember × State). run s)
      (shown_is _ (ClassMember-F.Prop m key.0 key.1 mark definite own None r)
      (vMember.rolls-Prop m key.0 key.1 mark definite own None r))
  prop_is m key mark definite own (Some e) r s =
      ap (λ (run : State → Option ClassMember × State). run s)
      (shown_is _ (ClassMember-F.Prop m key.0 key.1 mark definite own (Some e) r)
      (vMember.rolls-Prop m key.0 key.1 mark definite own (Some e) r))

  module _ (x : List ℕ) (ts : List Token) where
    made_none : (old : Draft) (it : ClassMember) → shown_member by it (state_of old) ≡ (None, state_of old)
        → MemberMade x ts by old old false it
    made_none old it is = record {
      state = sym (ap (λ (p : Option ClassMember × State). p.1) is);
      gives = subst (λ (o : Option ClassMember). Gives x ts member_in old.row old.row false o)
          (sym (ap (λ (p : Option ClassMember × State). p.0) is)) (refl, nothing_written x ts old.row);
    }

    made_some : (old new : Draft) (it made : ClassMember)
        → shown_member by it (state_of old) ≡ (Some made, state_of new)
        → Puts x ts member_in old.row new.row made → MemberMade x ts by old new true it
    made_some old new it made is puts = record {
      state = sym (ap (λ (p : Option ClassMember × State). p.1) is);
      gives = subst (λ (o : Option ClassMember). Gives x ts member_in old.row new.row true o)
          (sym (ap (λ (p : Option ClassMember × State). p.0) is)) (refl, puts);
    }

    -- one with `accessor` goes
    accessor_goes : (old : Draft) (m : Modifiers) (key : Key) (mark definite : Bool) (own : Option TsPart)
        (value : Option Expr) (r : Range) → m.accessor ≡ true
        → MemberMade x ts by old old false (vMember.Prop m key.0 key.1 mark definite own value r)
    accessor_goes old m key mark definite own value r is =
        made_none old _ (prop_is m key mark definite own value r (state_of old)
        ∙ ap (λ (b : Bool). unless_ by b
        (field by m mark r own (option_map (λ (e : Expr). (e, shown_expr by e)) value) (key_rule by key)) (state_of old)) is)

    field_is : (m : Modifiers) (key : Key) (mark definite : Bool) (own : Option TsPart) (value : Option Expr) (r : Range)
        (s : State) → m.accessor ≡ false → shown_member by (vMember.Prop m key.0 key.1 mark definite own value r) s
        ≡ field by m mark r own (option_map (λ (e : Expr). (e, shown_expr by e)) value) (key_rule by key) s
    field_is m key mark definite own value r s is =
        prop_is m key mark definite own value r s
        ∙ ap (λ (b : Bool). unless_ by b
        (field by m mark r own (option_map (λ (e : Expr). (e, shown_expr by e)) value) (key_rule by key)) s) is

    -- one whose key goes
    key_goes : (old : Draft) (m : Modifiers) (key : Key) (mark definite : Bool) (own : Option TsPart)
        (value : Option Expr) (r : Range) → m.accessor ≡ false → key_rule by key ≡ None
        → MemberMade x ts by old old false (vMember.Prop m key.0 key.1 mark definite own value r)
    key_goes old m key mark definite own value r is none =
        made_none old _ (field_is m key mark definite own value r (state_of old) is
        ∙ ap (λ (o : Option Key). field by m mark r own
        (option_map (λ (e : Expr). (e, shown_expr by e)) value) o (state_of old)) none)

    -- one that is written
    field_made : (old new : Draft) (m : Modifiers) (key : Key) (mark definite : Bool) (own : Option TsPart)
        (value : Option Expr) (r : Range) → m.accessor ≡ false
        → FieldPut x ts by old new (undeclared m) mark r own value (key_rule by key)
        → MemberMade x ts by old new true (vMember.Prop m key.0 key.1 mark definite own value r)
    field_made old new m key mark definite own value r is put =
        made_some old new _ _ (field_is m key mark definite own value r (state_of old) is
        ∙ (ap (λ (o : Option Key). field by m mark r own
        (option_map (λ (e : Expr). (e, shown_expr by e)) value) o (state_of old)) put.is
        ∙ ap (λ (p : Option TsPart × State). after
        (λ part. Some (vMember.Prop (undeclared m) put.key.0 put.key.1 mark false part None r)) p) put.typed)) put.puts

    -- ---- fields of JavaScript
    plain_by : (old new : Draft) (wrote b : Bool) (r : Range) (key : Option Key) (value : Option (Option Expr))
        → IfThere (λ key. IfThere (λ value. MemberMade x ts by old new wrote
        (vMember.Prop (modified b false) key.0 key.1 false false None value r)) value) key
        → IfThere (MemberMade x ts by old new wrote) (given key (λ key. given value (λ value.
        Some (vMember.Prop (modified b false) key.0 key.1 false false None value r))))
    plain_by old new wrote b r None value h = record { is = tt }
    plain_by old new wrote b r (Some key) None h = record { is = tt }
    plain_by old new wrote b r (Some key) (Some value) h = record { is = h.is.is }

    pub plain_accessor : (old : Draft) (is_accessor : Bool) (r : Range) (p : Value) → is_accessor ≡ true
        → IfThere (MemberMade x ts by old old false) (field_member is_accessor r p)
    unfolding field_member
    plain_accessor old is_accessor r p is = go (key_at p 1) (optional expr_at (group p 2))
      where
        go : (key : Option Key) (value : Option (Option Expr)) → IfThere (MemberMade x ts by old old false)
            (given key (λ key. given value (λ value.
            Some (vMember.Prop (modified (is_there (group p 0)) is_accessor) key.0 key.1 false false None value r))))
        go None value = record { is = tt }
        go (Some key) None = record { is = tt }
        go (Some key) (Some value) = record {
          is = accessor_goes old (modified (is_there (group p 0)) is_accessor) key false false None value r is;
        }

    pub plain_dropped : (old : Draft) (r : Range) (p v : Value) → part p 1 ≡ v
        → IfThere (λ key. key_rule by key ≡ None) (key_in v)
        → IfThere (MemberMade x ts by old old false) (field_member false r p)
    unfolding field_member
    plain_dropped old r p v e h =
        plain_by old old false (is_there (group p 0)) r (key_at p 1) (optional expr_at (group p 2))
        (go (key_at p 1) (optional expr_at (group p 2))
        (subst (λ (v : Value). IfThere (λ key. key_rule by key ≡ None) (key_in v)) (sym e) h))
      where
        every : (key : Key) (value : Option (Option Expr)) → key_rule by key ≡ None
            → IfThere (λ value. MemberMade x ts by old old false
            (vMember.Prop (modified (is_there (group p 0)) false) key.0 key.1 false false None value r)) value
        every key None none = record { is = tt }
        every key (Some value) none = record {
          is = key_goes old (modified (is_there (group p 0)) false) key false false None value r refl none;
        }

        go : (key : Option Key) (value : Option (Option Expr)) → IfThere (λ key. key_rule by key ≡ None) key
            → IfThere (λ key. IfThere (λ value. MemberMade x ts by old old false
            (vMember.Prop (modified (is_there (group p 0)) false) key.0 key.1 false false None value r)) value) key
        go None value h = record { is = tt }
        go (Some key) value h = record { is = every key value h.is }

    pub plain_made : (old new : Draft) (r : Range) (p v : Value) → part p 1 ≡ v
        → IfThere (λ key. IfThere (λ value. FieldPut x ts by old new (modified (is_there (group p 0)) false) false r None
        value (key_rule by key)) (optional expr_at (group p 2))) (key_in v)
        → IfThere (MemberMade x ts by old new true) (field_member false r p)
    unfolding field_member
    plain_made old new r p v e h =
        plain_by old new true (is_there (group p 0)) r (key_at p 1) (optional expr_at (group p 2))
        (lifted (λ key h. lifted (λ value put.
        field_made old new (modified (is_there (group p 0)) false) key false false None value r refl put) h)
        (subst (λ (v : Value). IfThere (λ key. IfThere (λ value. FieldPut x ts by old new
        (modified (is_there (group p 0)) false) false r None value (key_rule by key)) (optional expr_at (group p 2)))
        (key_in v)) (sym e) h))

    -- ---- fields of TypeScript
    typed_by : (old new : Draft) (wrote is_accessor mark definite : Bool) (r : Range) (m : Option Modifiers)
        (key : Option Key) (own : Option (Option TsPart)) (value : Option (Option Expr))
        → IfThere (λ m. IfThere (λ key. IfThere (λ own. IfThere (λ value. MemberMade x ts by old new wrote
        (vMember.Prop (with_accessor is_accessor m) key.0 key.1 mark definite own value r)) value) own) key) m
        → IfThere (MemberMade x ts by old new wrote) (given m (λ m. given key (λ key. given own (λ own.
        given value (λ value.
        Some (vMember.Prop (with_accessor is_accessor m) key.0 key.1 mark definite own value r))))))
    typed_by old new wrote is_accessor mark definite r None key own value h = record { is = tt }
    typed_by old new wrote is_accessor mark definite r (Some m) None own value h = record { is = tt }
    typed_by old new wrote is_accessor mark definite r (Some m) (Some key) None value h = record { is = tt }
    typed_by old new wrote is_accessor mark definite r (Some m) (Some key) (Some own) None h = record { is = tt }
    typed_by old new wrote is_accessor mark definite r (Some m) (Some key) (Some own) (Some value) h = record {
      is = h.is.is.is.is;
    }

    all_there : {A : Type 0} (P : A → Type 0) (o : Option A) → ((a : A) → P a) → IfThere P o
    all_there P None each = record { is = tt }
    all_there P (Some a) each = record { is = each a }

    pub typed_accessor : (old : Draft) (is_accessor : Bool) (r : Range) (p : Value) → is_accessor ≡ true
        → IfThere (MemberMade x ts by old old false) (typed_field ts is_accessor r p)
    unfolding typed_field
    typed_accessor old is_accessor r p is =
        typed_by old old false is_accessor (is_mark k.Question (kind_at ts (group p 2) 0))
        (is_mark k.Exclamation (kind_at ts (group p 2) 0)) r (modifiers_in ts plain (group p 0)) (key_at p 1)
        (annotation_at p 3) (optional expr_at (group p 4)) (all_there _ _ (λ m. all_there _ _ (λ key.
        all_there _ _ (λ own. all_there _ _ (λ value.
        accessor_goes old (with_accessor is_accessor m) key _ _ own value r is)))))

    pub typed_dropped : (old : Draft) (r : Range) (p v : Value) → part p 1 ≡ v
        → IfThere (λ key. key_rule by key ≡ None) (key_in v)
        → IfThere (MemberMade x ts by old old false) (typed_field ts false r p)
    unfolding typed_field
    typed_dropped old r p v e h =
        typed_by old old false false (is_mark k.Question (kind_at ts (group p 2) 0))
        (is_mark k.Exclamation (kind_at ts (group p 2) 0)) r (modifiers_in ts plain (group p 0)) (key_at p 1)
        (annotation_at p 3) (optional expr_at (group p 4)) (all_there _ _ (λ m. lifted (λ key none.
        all_there _ _ (λ own. all_there _ _ (λ value.
        key_goes old (with_accessor false m) key _ _ own value r refl none)))
        (subst (λ (v : Value). IfThere (λ key. key_rule by key ≡ None) (key_in v)) (sym e) h)))

    pub typed_made : (old new : Draft) (r : Range) (p v : Value) → part p 1 ≡ v
        → IfThere (λ key. IfThere (λ m. IfThere (λ own. IfThere (λ value. FieldPut x ts by old new
        (with_accessor false (undeclared m)) (is_mark k.Question (kind_at ts (group p 2) 0)) r own value
        (key_rule by key)) (optional expr_at (group p 4))) (annotation_at p 3)) (modifiers_in ts plain (group p 0)))
        (key_in v)
        → IfThere (MemberMade x ts by old new true) (typed_field ts false r p)
    unfolding typed_field
    typed_made old new r p v e h =
        typed_by old new true false (is_mark k.Question (kind_at ts (group p 2) 0))
        (is_mark k.Exclamation (kind_at ts (group p 2) 0)) r (modifiers_in ts plain (group p 0)) (key_at p 1)
        (annotation_at p 3) (optional expr_at (group p 4))
        (go (modifiers_in ts plain (group p 0)) (key_at p 1)
        (subst (λ (v : Value). IfThere (λ key. IfThere (λ m. IfThere (λ own. IfThere (λ value. FieldPut x ts by old new
        (with_accessor false (undeclared m)) (is_mark k.Question (kind_at ts (group p 2) 0)) r own value
        (key_rule by key)) (optional expr_at (group p 4))) (annotation_at p 3)) (modifiers_in ts plain (group p 0)))
        (key_in v)) (sym e) h))
      where
        one : (m : Modifiers) (key : Key)
            → IfThere (λ own. IfThere (λ value. FieldPut x ts by old new
            (with_accessor false (undeclared m)) (is_mark k.Question (kind_at ts (group p 2) 0)) r own value
            (key_rule by key)) (optional expr_at (group p 4))) (annotation_at p 3)
            → IfThere (λ own. IfThere (λ value. MemberMade x ts by old new true
            (vMember.Prop (with_accessor false m) key.0 key.1 (is_mark k.Question (kind_at ts (group p 2) 0))
            (is_mark k.Exclamation (kind_at ts (group p 2) 0)) own value r)) (optional expr_at (group p 4)))
            (annotation_at p 3)
        one m key h =
            lifted (λ own h. lifted (λ value put.
            field_made old new (with_accessor false m) key _ _ own value r refl put) h) h

        go : (ms : Option Modifiers) (key : Option Key)
            → IfThere (λ key. IfThere (λ m. IfThere (λ own. IfThere (λ value. FieldPut x ts by old new
            (with_accessor false (undeclared m)) (is_mark k.Question (kind_at ts (group p 2) 0)) r own value
            (key_rule by key)) (optional expr_at (group p 4))) (annotation_at p 3)) ms) key
            → IfThere (λ m. IfThere (λ key. IfThere (λ own. IfThere (λ value. MemberMade x ts by old new true
            (vMember.Prop (with_accessor false m) key.0 key.1 (is_mark k.Question (kind_at ts (group p 2) 0))
            (is_mark k.Exclamation (kind_at ts (group p 2) 0)) own value r)) (optional expr_at (group p 4)))
            (annotation_at p 3)) key) ms
        go None key h = record { is = tt }
        go (Some m) None h = record { is = record { is = tt } }
        go (Some m) (Some key) h = record { is = record { is = one m key h.is.is } }

    -- ---- the type of a value
    abbrev SilentBy : Draft → Draft → Option TsType × State → Type 0
    SilentBy old new p =
        (ty : TsType) × (any_silently p ≡ (annotation ty, state_of new)) × Puts x ts ts_type_in old.row new.row ty

    found_by : (old new : Draft) (wrote : Bool) (p : Option TsType × State) → wrote ≡ true
        → Answers x ts old new wrote p → SilentBy old new p
    found_by old new wrote (Some ty, s) yes_ a = (ty, ap (λ (s : State). (annotation ty, s)) (sym a.1), a.2)
    found_by old new wrote (None, s) yes_ a = absurd (true≢false (sym yes_ ∙ a.0))

    none_by : (old mid new : Draft) (wrote : Bool) (p : Option TsType × State) → wrote ≡ false
        → Answers x ts old mid wrote p → state_of new ≡ state_of mid
        → Writes x ts mid.row new.row (type_node 0 0 (Some (word_type word.Any)) ∷ []) → SilentBy old new p
    none_by old mid new wrote (Some ty, s) no_ a sn w = absurd (true≢false (sym a.0 ∙ no_))
    none_by old mid new wrote (None, s) no_ a sn w = (
      any_type,
      ap (λ (s : State). (annotation any_type, s)) (sym (sn ∙ a.1)),
      record {
        value = type_node 0 0 (Some (word_type word.Any));
        writes = both_written x ts old.row mid.row new.row [] _ a.2 w;
        is = refl;
      },
    )

    pub silent_found : (old new : Draft) (wrote : Bool) (o : Option Expr) → wrote ≡ true
        → IfThere (Infers x ts by Wide old new wrote) o → IfThere (Silently x ts by old new) o
    silent_found old new wrote o yes_ h =
        lifted (λ e a.
        let s : SilentBy old new ((shown_expr by e).rule false false (state_of old)) =
        found_by old new wrote ((shown_expr by e).rule false false (state_of old)) yes_ a in
        record { ty = s.0; typed = s.1; puts = s.2 }) h

    pub silent_any : (old mid new : Draft) (wrote : Bool) (o : Option Expr) → wrote ≡ false
        → IfThere (Infers x ts by Wide old mid wrote) o → state_of new ≡ state_of mid
        → Writes x ts mid.row new.row (type_node 0 0 (Some (word_type word.Any)) ∷ [])
        → IfThere (Silently x ts by old new) o
    silent_any old mid new wrote o no_ h sn w =
        lifted (λ e a.
        let s : SilentBy old new ((shown_expr by e).rule false false (state_of old)) =
        none_by old mid new wrote ((shown_expr by e).rule false false (state_of old)) no_ a sn w in
        record { ty = s.0; typed = s.1; puts = s.2 }) h

    -- gone, opened, opened, a type, closed, closed, gone
    pub inferred : (old a b c d e f new : Draft) (spot place : ℕ) (o : Option Expr) → Writes x ts old.row a.row []
        → b.row ≡ a.row ++ opened → spot ≡ length a.row → c.row ≡ b.row ++ opened → place ≡ length b.row
        → state_of c ≡ state_of old → IfThere (Silently x ts by c d) o
        → e.row ≡ closed (change.Form form.Annotation) 0 0 place d.row
        → f.row ≡ closed (change.Old vWhat.Parts) 0 0 spot e.row → Writes x ts f.row new.row []
        → state_of new ≡ state_of d
        → IfThere (FieldTyped x ts by old new None) (option_map Some o)
    inferred old a b c d e f new spot place None g eb sp ec pl sc h ee ef w sn = record { is = tt }
    inferred old a b c d e f new spot place (Some it) g eb sp ec pl sc h ee ef w sn = record {
      is = record {
        it = packed (typed ∷ []);
        writes = both_written x ts old.row a.row new.row [] (packed (typed ∷ []) ∷ []) g
            (both_written x ts a.row f.row new.row (packed (typed ∷ []) ∷ []) []
            (group_written x ts 0 0 spot a.row b.row e.row f.row (typed ∷ []) eb sp
            (form_written x ts form.Annotation 0 0 place b.row c.row d.row e.row (h.is.puts.value ∷ []) ec pl
            h.is.puts.writes ee) ef) w);
        part = annotation h.is.ty;
        typed = ap (λ (s : State). any_silently ((shown_expr by it).rule false false s)) (sym sc)
            ∙ (h.is.typed ∙ ap (λ (s : State). (annotation h.is.ty, s)) (sym sn));
        is = ap (λ (o : Option TsType). option_map (λ ty. option_map vPart.TypeAnn ty) (option_map Some o)) h.is.puts.is;
      };
    }
      where
        typed : Value
        typed = formed x ts form.Annotation 0 0 (packed (h.is.puts.value ∷ []))

    pub value_there : (old new : Draft) (row v vs : Value) → row ≡ more v vs
        → IfThere (FieldTyped x ts by old new None) (option_map Some (expr_in v))
        → IfThere (FieldTyped x ts by old new None) (optional expr_at row)
    value_there old new row v vs e h =
        subst (λ (row : Value). IfThere (FieldTyped x ts by old new None) (optional expr_at row)) (sym e) h

    pub value_none : (old new : Draft) (row : Value) → row ≡ nil → state_of new ≡ state_of old
        → Writes x ts old.row new.row (nil ∷ []) → IfThere (FieldTyped x ts by old new None) (optional expr_at row)
    value_none old new row e sn w =
        subst (λ (row : Value). IfThere (FieldTyped x ts by old new None) (optional expr_at row)) (sym e) (record {
          is = record {
            it = nil;
            writes = w;
            part = None;
            typed = ap (λ (s : State). (None, s)) (sym sn);
            is = refl;
          };
        })

    -- ---- its own type
    read_some : (v vs : Value) (own : Option TsPart) → annotation_in (more v vs) ≡ Some own
        → (ty : TsPart) × (own ≡ Some ty)
    read_some v vs own e = go (type_at (more v vs) 0) e
      where
        unsome : Option (Option TsPart) → Option TsPart
        unsome (Some o) = o
        unsome None = None

        go : (o : Option TsType) → option_map (λ ty. option_map vPart.TypeAnn ty) (option_map Some o) ≡ Some own
            → (ty : TsPart) × (own ≡ Some ty)
        go None e = let bad : ⊥ = cc in absurd bad
        go (Some ty) e = (vPart.TypeAnn ty, sym (ap unsome e))

    pub type_kept : (old mid new : Draft) (p row v vs : Value) (n : ℕ) (value : Option (Option Expr)) → row ≡ group p n
        → row ≡ more v vs → Writes x ts old.row mid.row (part p n ∷ []) → Writes x ts mid.row new.row []
        → state_of new ≡ state_of old
        → IfThere (λ own. IfThere (FieldTyped x ts by old new own) value) (annotation_at p n)
    type_kept old mid new p row v vs n value same e w d sn = go (annotation_at p n) refl
      where
        one : (own : Option TsPart) (it : Option Expr) → annotation_at p n ≡ Some own → FieldTyped x ts by old new own it
        one own it is =
            let some_ : (ty : TsPart) × (own ≡ Some ty) =
            read_some v vs own (ap annotation_in (sym e ∙ same) ∙ is) in
            record {
              it = part p n;
              writes = both_written x ts old.row mid.row new.row (part p n ∷ []) [] w d;
              part = own;
              typed = subst (λ (own : Option TsPart). type_rule by own it (state_of old) ≡ (own, state_of new))
                  (sym some_.1) (ap (λ (s : State). (Some some_.0, s)) (sym sn));
              is = is;
            }

        go : (a : Option (Option TsPart)) → annotation_at p n ≡ a
            → IfThere (λ own. IfThere (FieldTyped x ts by old new own) value) a
        go None is = record { is = tt }
        go (Some own) is = record { is = all_there _ value (λ it. one own it is) }

    pub type_made : (old new : Draft) (p row : Value) (n : ℕ) (value : Option (Option Expr)) → row ≡ group p n
        → row ≡ nil → IfThere (FieldTyped x ts by old new None) value
        → IfThere (λ own. IfThere (FieldTyped x ts by old new own) value) (annotation_at p n)
    type_made old new p row n value same e h =
        subst (λ (w : Value). IfThere (λ own. IfThere (FieldTyped x ts by old new own) value) (annotation_in w))
        (sym e ∙ same) (record { is = h })

  -- ---- what is written of a field with this key
  module _ (x : List ℕ) (ts : List Token) where
    field_in : (from to : ℕ) (head key ty : Value) → member_in (formed x ts form.Field from to
        (packed (head ∷ key ∷ ty ∷ [])))
        ≡ given (key_in key) (λ it. given (annotation_in (as_group ty)) (λ part.
        Some (vMember.Prop (modified (is_there (as_group head)) false) it.0 it.1 false false part None (span_of ts from to))))
    field_in from to head key ty = refl

    read_field : (m : Modifiers) (r : Range) (mark : Bool) (key : Option Key) (own : Option (Option TsPart)) (it : Key)
        (part : Option TsPart) → key ≡ Some it → own ≡ Some part
        → given key (λ it. given own (λ part. Some (vMember.Prop m it.0 it.1 mark false part None r)))
        ≡ Some (vMember.Prop m it.0 it.1 mark false part None r)
    read_field m r mark key own it part ek eo =
        ap (λ (key : Option Key). given key (λ it. given own (λ part.
        Some (vMember.Prop m it.0 it.1 mark false part None r)))) ek
        ∙ ap (λ (own : Option (Option TsPart)). given own (λ part. Some (vMember.Prop m it.0 it.1 mark false part None r))) eo

    pub plain_put : (old a b c d new : Draft) (place from to : ℕ) (p row : Value) (o : Option Key)
        → a.row ≡ old.row ++ opened → place ≡ length old.row → Writes x ts a.row b.row (part p 0 ∷ [])
        → KeyPut x ts b.row c.row o → state_of c ≡ state_of old → row ≡ group p 2
        → IfThere (FieldTyped x ts by c d None) (optional expr_at row)
        → new.row ≡ closed (change.Form form.Field) from to place d.row → state_of new ≡ state_of d
        → IfThere (λ value. FieldPut x ts by old new (modified (is_there (group p 0)) false) false (span_of ts from to)
        None value o) (optional expr_at (group p 2))
    plain_put old a b c d new place from to p row o ea pl w key sc same h en sn =
        lifted (λ value t. one value t)
        (subst (λ (row : Value). IfThere (FieldTyped x ts by c d None) (optional expr_at row)) same h)
      where
        one : (value : Option Expr) → FieldTyped x ts by c d None value
            → FieldPut x ts by old new (modified (is_there (group p 0)) false) false (span_of ts from to) None value o
        one value t = record {
          key = key.key;
          is = key.is;
          part = t.part;
          typed = ap (λ (s : State). type_rule by None value s) (sym sc)
              ∙ (t.typed ∙ ap (λ (s : State). (t.part, s)) (sym sn));
          puts = record {
            value = formed x ts form.Field from to (packed (part p 0 ∷ key.puts.value ∷ t.it ∷ []));
            writes = form_written x ts form.Field from to place old.row a.row d.row new.row
                (part p 0 ∷ key.puts.value ∷ t.it ∷ []) ea pl
                (both_written x ts a.row b.row d.row (part p 0 ∷ []) (key.puts.value ∷ t.it ∷ []) w
                (both_written x ts b.row c.row d.row (key.puts.value ∷ []) (t.it ∷ []) key.puts.writes t.writes)) en;
            is = field_in from to (part p 0) key.puts.value t.it
                ∙ read_field (modified (is_there (group p 0)) false) (span_of ts from to) false _ _ key.key t.part
                key.puts.is t.is;
          };
        }

    typed_in : (from to : ℕ) (head key mark ty rest : Value)
        → member_in (node_of x ts l.TypedFieldMember from to (packed (head ∷ key ∷ mark ∷ ty ∷ nil ∷ rest ∷ [])))
        ≡ given (modifiers_in ts plain (as_group head)) (λ m. given (key_in key) (λ it.
        given (annotation_in (as_group ty)) (λ part. Some (vMember.Prop (with_accessor false m) it.0 it.1
        (is_mark k.Question (kind_at ts (as_group mark) 0)) (is_mark k.Exclamation (kind_at ts (as_group mark) 0)) part
        None (span_of ts from to)))))
    unfolding build member_of typed_field
    typed_in from to head key mark ty rest = refl

    read_typed : (r : Range) (ms : Option Modifiers) (key : Option Key) (own : Option (Option TsPart)) (m : Modifiers)
        (it : Key) (part : Option TsPart) (a b mark : Bool) → ms ≡ Some m → key ≡ Some it → own ≡ Some part → a ≡ mark
        → b ≡ false
        → given ms (λ m. given key (λ it. given own (λ part.
        Some (vMember.Prop (with_accessor false m) it.0 it.1 a b part None r))))
        ≡ Some (vMember.Prop (with_accessor false m) it.0 it.1 mark false part None r)
    read_typed r ms key own m it part a b mark em ek eo ea eb =
        ap (λ (ms : Option Modifiers). given ms (λ m. given key (λ it. given own (λ part.
        Some (vMember.Prop (with_accessor false m) it.0 it.1 a b part None r))))) em
        ∙ (ap (λ (key : Option Key). given key (λ it. given own (λ part.
        Some (vMember.Prop (with_accessor false m) it.0 it.1 a b part None r)))) ek
        ∙ (ap (λ (own : Option (Option TsPart)). given own (λ part.
        Some (vMember.Prop (with_accessor false m) it.0 it.1 a b part None r))) eo
        ∙ (ap (λ (a : Bool). Some (vMember.Prop (with_accessor false m) it.0 it.1 a b part None r)) ea
        ∙ ap (λ (b : Bool). Some (vMember.Prop (with_accessor false m) it.0 it.1 mark b part None r)) eb)))

    pub typed_put : (old a b c d e f g new : Draft) (place from to : ℕ) (p row : Value) (o : Option Key)
        → a.row ≡ old.row ++ opened → place ≡ length old.row → row ≡ group p 0
        → UndeclaredGroup x ts a.row b.row row → KeyPut x ts b.row c.row o → Marks x ts c.row d.row (group p 2)
        → state_of d ≡ state_of old
        → IfThere (λ own. IfThere (FieldTyped x ts by d e own) (optional expr_at (group p 4))) (annotation_at p 3)
        → Writes x ts e.row f.row (nil ∷ []) → Writes x ts f.row g.row (part p 5 ∷ [])
        → new.row ≡ closed (change.Old (vWhat.Node l.TypedFieldMember)) from to place g.row → state_of new ≡ state_of e
        → IfThere (λ m. IfThere (λ own. IfThere (λ value. FieldPut x ts by old new (with_accessor false (undeclared m))
        (is_mark k.Question (kind_at ts (group p 2) 0)) (span_of ts from to) own value o)
        (optional expr_at (group p 4))) (annotation_at p 3)) (modifiers_in ts plain (group p 0))
    typed_put old a b c d e f g new place from to p row o ea pl same ms key marks sd h n rest en sn =
        go (modifiers_in ts plain (group p 0))
        (subst (λ (row : Value). IfSome (modifiers_in ts plain row)
        (λ m. modifiers_in ts plain (as_group ms.it) ≡ Some (undeclared m))) same (ms.are plain))
      where
        one : (m : Modifiers) → modifiers_in ts plain (as_group ms.it) ≡ Some (undeclared m) → (own : Option TsPart)
            (value : Option Expr) → FieldTyped x ts by d e own value
            → FieldPut x ts by old new (with_accessor false (undeclared m))
            (is_mark k.Question (kind_at ts (group p 2) 0)) (span_of ts from to) own value o
        one m em own value t = record {
          key = key.key;
          is = key.is;
          part = t.part;
          typed = ap (λ (s : State). type_rule by own value s) (sym sd)
              ∙ (t.typed ∙ ap (λ (s : State). (t.part, s)) (sym sn));
          puts = record {
            value = node_of x ts l.TypedFieldMember from to
                (packed (ms.it ∷ key.puts.value ∷ marks.it ∷ t.it ∷ nil ∷ part p 5 ∷ []));
            writes = node_written x ts l.TypedFieldMember from to place old.row a.row g.row new.row
                (ms.it ∷ key.puts.value ∷ marks.it ∷ t.it ∷ nil ∷ part p 5 ∷ []) ea pl
                (both_written x ts a.row b.row g.row (ms.it ∷ [])
                (key.puts.value ∷ marks.it ∷ t.it ∷ nil ∷ part p 5 ∷ []) ms.writes
                (both_written x ts b.row c.row g.row (key.puts.value ∷ []) (marks.it ∷ t.it ∷ nil ∷ part p 5 ∷ [])
                key.puts.writes
                (both_written x ts c.row d.row g.row (marks.it ∷ []) (t.it ∷ nil ∷ part p 5 ∷ []) marks.writes
                (both_written x ts d.row e.row g.row (t.it ∷ []) (nil ∷ part p 5 ∷ []) t.writes
                (both_written x ts e.row f.row g.row (nil ∷ []) (part p 5 ∷ []) n rest))))) en;
            is = typed_in from to ms.it key.puts.value marks.it t.it (part p 5)
                ∙ read_typed (span_of ts from to) _ _ _ (undeclared m) key.key t.part _ _ _ em key.puts.is t.is
                marks.question marks.exclamation;
          };
        }

        go : (o_ : Option Modifiers) → IfSome o_ (λ m. modifiers_in ts plain (as_group ms.it) ≡ Some (undeclared m))
            → IfThere (λ m. IfThere (λ own. IfThere (λ value. FieldPut x ts by old new
            (with_accessor false (undeclared m)) (is_mark k.Question (kind_at ts (group p 2) 0)) (span_of ts from to)
            own value o) (optional expr_at (group p 4))) (annotation_at p 3)) o_
        go None em = record { is = tt }
        go (Some m) em = record { is = lifted (λ own h. lifted (λ value t. one m em own value t) h) h }

-- ---- the mark
module _ (x : List ℕ) (ts : List Token) where
  question_by : (o : Option Token) → is_kind k.Question o ≡ true → is_mark k.Exclamation (option_map (λ t. t.kind) o) ≡ false
  question_by None e = refl
  question_by (Some t) e = ap (λ (kind : TokenKind). same_kind kind k.Exclamation) (kind_of k.Question t e)

  pub question_stays : (old new : List ChangedEntry) (p : Value) (n at : ℕ)
      → token_at ts (group p n) 0 ≡ slice_get ts at → is_kind k.Question (slice_get ts at) ≡ true
      → Writes x ts old new (part p n ∷ []) → Marks x ts old new (group p n)
  question_stays old new p n at there is w = record {
    it = part p n;
    writes = w;
    question = refl;
    exclamation = ap (λ (o : Option Token). is_mark k.Exclamation (option_map (λ t. t.kind) o)) there
        ∙ question_by (slice_get ts at) is;
  }

  mark_by : (o : Option Token) → is_kind k.Question o ≡ false → false ≡ is_mark k.Question (option_map (λ t. t.kind) o)
  mark_by None e = refl
  mark_by (Some t) e = sym e

  pub other_goes : (old mid new : List ChangedEntry) (p : Value) (n at : ℕ)
      → token_at ts (group p n) 0 ≡ slice_get ts at → is_kind k.Question (slice_get ts at) ≡ false
      → Writes x ts old mid (nil ∷ []) → Writes x ts mid new [] → Marks x ts old new (group p n)
  other_goes old mid new p n at there is w d = record {
    it = nil;
    writes = both_written x ts old mid new (nil ∷ []) [] w d;
    question = mark_by (slice_get ts at) is
        ∙ ap (λ (o : Option Token). is_mark k.Question (option_map (λ t. t.kind) o)) (sym there);
    exclamation = refl;
  }

  pub no_mark : (old new : List ChangedEntry) (p row : Value) (n : ℕ) → row ≡ group p n → token_at ts row 0 ≡ None
      → Writes x ts old new (nil ∷ []) → Marks x ts old new (group p n)
  no_mark old new p row n same none w = record {
    it = nil;
    writes = w;
    question = ap (λ (o : Option Token). is_mark k.Question (option_map (λ t. t.kind) o))
        (sym none ∙ ap (λ (row : Value). token_at ts row 0) same);
    exclamation = refl;
  }
