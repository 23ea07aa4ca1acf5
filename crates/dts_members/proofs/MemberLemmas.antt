-- Members, by their alternatives.
use denote.Enum.Bare.{same_true}
use Rattle.std.specs.Prelude.{ℕ, Bool, true, false, List, [], ◌∷◌, Option, Some, None, option_map, if◌then◌else◌}
use Rattle.std.proofs.Common.{◌≡◌, refl, sym, ap, subst, ◌∙◌}
use Rattle.base.specs.declared.range.Range.{Range}
use Rattle.es_token.specs.declared.token.Token.{Token}
use Rattle.es_token.specs.contracts.token.TokenKind.{the_type}
use Rattle.es_token.specs.declared.token.TokenKind.{TokenKind}
use Rattle.es_token.specs.declared.token.TokenKind.TheVariants as k
use Rattle.grammar_theory.specs.Key.{same_kind}
use Rattle.es_grammar.specs.declared.rows.NodeKind.{NodeKind}
use Rattle.es_grammar.specs.declared.rows.NodeKind.TheVariants as l
use Rattle.es_ast.specs.declared.ts.leaf.MethodKind.{MethodKind}
use Rattle.es_ast.specs.declared.ts.leaf.MethodKind.TheVariants as vMethod
use Rattle.es_ast.specs.declared.ts.leaf.Ident.{Ident}
use Rattle.es_ast.specs.declared.ts.ts.TsPart.{TsPart}
use Rattle.es_ast.specs.declared.ts.ts.TsPart.TheVariants as vPart
use Rattle.es_ast.specs.declared.leaf.Modifiers.{Modifiers}
use Rattle.es_ast.specs.declared.ast.ClassMember.{ClassMember}
use Rattle.es_ast.specs.declared.ast.ClassMember.TheVariants as vMember
use Rattle.es_ast.specs.declared.ast.ClassMember.TheOpen.{ClassMember-F}
use Rattle.es_ast.specs.declared.ast.Stmt.{Stmt}
use Rattle.es_lowering.specs.Value.{Value, given, part, group, is_there, block_at, type_at}
use Rattle.es_lowering.specs.Operators.{listed, accessor_kinds}
use Rattle.es_lowering.specs.Functions.{plain}
use Rattle.es_lowering.specs.TypedParts.{annotation_at, modifiers_in}
use Rattle.es_lowering.specs.Classes.{accessor_member, field_member, method_member, static_block}
use Rattle.es_lowering.specs.TypedFunctions.{index_member, typed_accessor_member, typed_field, typed_method_member}
use Rattle.es_lowering.specs.Lowering.{packed, build, member_of}
use Rattle.es_syntax.specs.declared.entry.What.{What}
use Rattle.es_syntax.specs.declared.entry.What.TheVariants as vWhat
use Rattle.es_syntax.specs.declared.cursor.Item.{Item}
use Rattle.es_syntax.specs.Held.{held, made, parts_of, valued}
use Rattle.es_syntax.specs.Roles.{member_in}
use Rattle.es_lowering.specs.Texts.{ident_at, kind_at, span_of, token_at}
use Rattle.es_changed.specs.Shape.{Writes}
use Rattle.dts_rules.specs.Rules as rules
use Rattle.dts_rules.specs.Rules.{Run, State, is_setter}
use Rattle.dts_rules.specs.Programs.{shown_member}
use Rattle.dts_rules.proofs.Shown.{at_member}
use Rattle.dts_draft.specs.declared.draft.Draft.{Draft}
use Rattle.dts_draft.specs.Drafts.{state_of, is_kind}
use Rattle.dts_draft.specs.Written.{IfThere, Gives}
use Rattle.dts_draft.proofs.There.{given_any}
use Rattle.dts_fields.specs.Fields.{MemberMade}
use Rattle.dts_members.specs.Methods.{accessor_form, between, method_form, typed_label, IsForm, IsTyped}
use Rattle.dts_members.proofs.MethodLemmas.{gone_made}

-- ---- forms
pub method_forms : (is_async is_generator : Bool)
    → IsForm (method_form is_async is_generator) vMethod.Method is_async is_generator
method_forms true true = record { is = λ x ts from to p. refl }
method_forms true false = record { is = λ x ts from to p. refl }
method_forms false true = record { is = λ x ts from to p. refl }
method_forms false false = record { is = λ x ts from to p. refl }

getter_form : IsForm (accessor_form false) vMethod.Getter false false
getter_form = record { is = λ x ts from to p. refl }

setter_form : IsForm (accessor_form true) vMethod.Setter false false
setter_form = record { is = λ x ts from to p. refl }

-- ---- `get` and `set`
-- what holds of the accessor that a word makes, and of whether it is `set`
of_word : (P : MethodKind → Bool → Type 0) → P vMethod.Getter false → P vMethod.Setter true → (w : TokenKind)
    → IfThere (λ kind. P kind (same_kind w k.SetWord)) (listed accessor_kinds w)
unfolding accessor_kinds
of_word P g s w = go (same_kind w k.GetWord) refl (same_kind w k.SetWord) refl
  where
    go : (is_get : Bool) → same_kind w k.GetWord ≡ is_get → (is_set : Bool) → same_kind w k.SetWord ≡ is_set
        → IfThere (λ kind. P kind is_set) (if is_get then Some vMethod.Getter else (if is_set then Some vMethod.Setter
        else None))
    go true eg true es =
        let e : same_kind k.GetWord k.SetWord ≡ true =
        subst (λ (w : TokenKind). same_kind w k.SetWord ≡ true) (same_true the_type tt w k.GetWord eg) es in
        let bad : ⊥ = cc in
        absurd bad
    go true eg false es = record { is = g }
    go false eg true es = record { is = s }
    go false eg false es = record { is = tt }

-- and of every member that is made of it
of_accessor : (P : MethodKind → Bool → Type 0) → P vMethod.Getter false → P vMethod.Setter true
    → (Q : ClassMember → Type 0) (make : MethodKind → Option ClassMember) (setter : Bool) (t : Option Token)
    → is_kind k.SetWord t ≡ setter
    → ((kind : MethodKind) → given (option_map (λ (t : Token). t.kind) t) (listed accessor_kinds) ≡ Some kind
    → P kind setter → IfThere Q (make kind))
    → IfThere Q (given (given (option_map (λ (t : Token). t.kind) t) (listed accessor_kinds)) make)
of_accessor P g s Q make setter None e each = record { is = tt }
of_accessor P g s Q make setter (Some t) e each =
    go (listed accessor_kinds t.kind) refl (subst (λ (setter : Bool). IfThere (λ kind. P kind setter)
    (listed accessor_kinds t.kind)) e (of_word P g s t.kind))
  where
    go : (o : Option MethodKind) → listed accessor_kinds t.kind ≡ o → IfThere (λ kind. P kind setter) o
        → IfThere Q (given o make)
    go None is h = record { is = tt }
    go (Some kind) is h = each kind is h.is

module _ (ts : List Token) (Q : ClassMember → Type 0) (r : Range) (p : Value) (setter : Bool) (t : Option Token) where
  pub plain_accessor : token_at ts p 1 ≡ t → is_kind k.SetWord t ≡ setter
      → ((kind : MethodKind) → IsForm (accessor_form setter) kind false false
      → IfThere Q (method_member ts kind false false r p 2))
      → IfThere Q (accessor_member ts r p)
  unfolding accessor_member
  plain_accessor et e each =
      subst (λ (t : Option Token). IfThere Q (given (given (option_map (λ (t : Token). t.kind) t) (listed
      accessor_kinds)) (λ kind. method_member ts kind false false r p 2))) (sym et)
      (of_accessor (λ kind setter. IsForm (accessor_form setter) kind false false) getter_form setter_form Q
      (λ kind. method_member ts kind false false r p 2) setter t e (λ kind is form. each kind form))

  pub typed_accessor : (x : List ℕ) → token_at ts p 1 ≡ t → is_kind k.SetWord t ≡ setter
      → ((kind : MethodKind) → is_setter kind ≡ setter
      → IsTyped x ts l.TypedAccessorMember (part p 0) (between true p) kind false false
      → IfThere Q (typed_method_member ts kind false false r p 2))
      → IfThere Q (typed_accessor_member ts r p)
  unfolding build member_of typed_accessor_member typed_method_member
  typed_accessor x et e each =
      subst (λ (t : Option Token). IfThere Q (given (given (option_map (λ (t : Token). t.kind) t) (listed
      accessor_kinds)) (λ kind. typed_method_member ts kind false false r p 2))) (sym et)
      (of_accessor (λ kind setter. is_setter kind ≡ setter) refl refl Q
      (λ kind. typed_method_member ts kind false false r p 2) setter t e
      (λ kind is same. each kind same (accessor_label x kind (ap (λ (t : Option Token).
      given (option_map (λ (t : Token). t.kind) t) (listed accessor_kinds)) et ∙ is))))
    where
      accessor_label : (x : List ℕ) (kind : MethodKind) → given (kind_at ts p 1) (listed accessor_kinds) ≡ Some kind
          → IsTyped x ts l.TypedAccessorMember (part p 0) (between true p) kind false false
      accessor_label x kind e = record {
        is = λ from to head body.
            ap (λ (o : Option MethodKind). given o (λ kind. typed_method_member ts kind false false (span_of ts from to)
            (packed (part p 0 ∷ part p 1 ∷ head ∷ body ∷ [])) 2)) e;
      }

module _ (x : List ℕ) (ts : List Token) where
  -- ---- alternatives of TypeScript
  pub method_labels : (is_generator : Bool) (p : Value)
      → IsTyped x ts (typed_label is_generator) (part p 0) (between false p) vMethod.Method false is_generator
  unfolding build member_of typed_method_member
  method_labels true p = record { is = λ from to head body. refl }
  method_labels false p = record { is = λ from to head body. refl }

  pub async_label : (p : Value)
      → IsTyped x ts l.TypedAsyncMember (part p 0) (between true p) vMethod.Method true (is_there (group p 1))
  unfolding build member_of typed_method_member
  async_label p = record { is = λ from to head body. refl }

  -- at its place
  pub member_there : (i : Item) (label : NodeKind) → i.what ≡ vWhat.Node label
      → member_in (valued x ts i) ≡ member_of x ts label (span_of ts i.from i.to) (held x ts i.parts.entries.now)
  unfolding build
  member_there i label is =
      ap (λ (w : What). member_in (made x ts w i.from i.to (held x ts i.parts.entries.now)
      (parts_of x ts i.parts.entries.now))) is

module _ (by : rules.Env) where
  -- ---- members without a rule of their own
  pub empty_gone : (r : Range) (s : State) → shown_member by (vMember.Empty r) s ≡ (None, s)
  empty_gone r s =
      ap (λ (run : Run (Option ClassMember)). run s)
      (ap (shown_member by) (sym (vMember.rolls-Empty r)) ∙ at_member by (ClassMember-F.ClassMember::Empty r))

  pub static_gone : (stmts : List Stmt) (r : Range) (s : State)
      → shown_member by (vMember.StaticBlock stmts r) s ≡ (None, s)
  static_gone stmts r s =
      ap (λ (run : Run (Option ClassMember)). run s)
      (ap (shown_member by) (sym (vMember.rolls-StaticBlock stmts r))
      ∙ at_member by (ClassMember-F.StaticBlock stmts r))

  index_kept : (m : Modifiers) (name : Ident) (of ty : Option TsPart) (r : Range) (s : State)
      → shown_member by (vMember.TsIndexSignature m name of ty r) s
      ≡ (Some (vMember.TsIndexSignature m name of ty r), s)
  index_kept m name of ty r s =
      ap (λ (run : Run (Option ClassMember)). run s)
      (ap (shown_member by) (sym (vMember.rolls-TsIndexSignature m name of ty r))
      ∙ at_member by (ClassMember-F.TsIndexSignature m name of ty r))

  module _ (x : List ℕ) (ts : List Token) where
    pub empty_made : (old : Draft) (label : NodeKind) (r : Range) (p : Value) → label ≡ l.EmptyMember
        → IfThere (MemberMade x ts by old old false) (member_of x ts label r p)
    unfolding member_of
    empty_made old label r p e =
        subst (λ (label : NodeKind). IfThere (MemberMade x ts by old old false) (member_of x ts label r p)) (sym e)
        (record { is = gone_made by x ts old (vMember.Empty r) (empty_gone r (state_of old)) })

    pub static_made : (old : Draft) (label : NodeKind) (r : Range) (p : Value) → label ≡ l.StaticBlock
        → IfThere (MemberMade x ts by old old false) (member_of x ts label r p)
    unfolding member_of static_block
    static_made old label r p e =
        subst (λ (label : NodeKind). IfThere (MemberMade x ts by old old false) (member_of x ts label r p)) (sym e)
        (go (block_at p 0))
      where
        go : (o : Option (List Stmt))
            → IfThere (MemberMade x ts by old old false) (option_map (λ stmts. vMember.StaticBlock stmts r) o)
        go None = record { is = tt }
        go (Some stmts) =
            record { is = gone_made by x ts old (vMember.StaticBlock stmts r) (static_gone stmts r (state_of old)) }

    -- a member that stays
    index_same : (r : Range) (p : Value)
        → IfThere (λ m. (s : State) → shown_member by m s ≡ (Some m, s)) (index_member x ts r p)
    unfolding index_member
    index_same r p =
        given_any _ (modifiers_in ts plain (group p 0)) _ (λ m.
        given_any _ (ident_at x ts p 1) _ (λ name.
        given_any _ (option_map vPart.TypeAnn (type_at p 2)) _ (λ of.
        given_any _ (annotation_at p 3) _ (λ ty. record { is = index_kept m name (Some of) ty r }))))

    pub index_made : (old new : Draft) (i : Item) (label : NodeKind) → i.what ≡ vWhat.Node label
        → label ≡ l.IndexMember → Writes x ts old.row new.row (valued x ts i ∷ []) → state_of new ≡ state_of old
        → IfThere (MemberMade x ts by old new true)
        (member_of x ts label (span_of ts i.from i.to) (held x ts i.parts.entries.now))
    unfolding member_of
    index_made old new i label is e w sn = go (member_of x ts label r p) refl same
      where
        r : Range
        r = span_of ts i.from i.to

        p : Value
        p = held x ts i.parts.entries.now

        same : IfThere (λ m. (s : State) → shown_member by m s ≡ (Some m, s)) (member_of x ts label r p)
        same =
            subst (λ (label : NodeKind). IfThere (λ m. (s : State) → shown_member by m s ≡ (Some m, s))
            (member_of x ts label r p)) (sym e) (index_same r p)

        go : (o : Option ClassMember) → member_of x ts label r p ≡ o
            → IfThere (λ m. (s : State) → shown_member by m s ≡ (Some m, s)) o
            → IfThere (MemberMade x ts by old new true) o
        go None em h = record { is = tt }
        go (Some m) em h = record {
          is = record {
            state = sn ∙ ap (λ (p : Option ClassMember × State). p.1) (sym (h.is (state_of old)));
            gives = subst (λ (o : Option ClassMember). Gives x ts member_in old.row new.row true o)
                (ap (λ (p : Option ClassMember × State). p.0) (sym (h.is (state_of old))))
                (refl, record { value = valued x ts i; writes = w; is = member_there x ts i label is ∙ em });
          };
        }

    -- ---- members of other alternatives, by what each of them is
    abbrev Made : Draft → Draft → Bool → Option ClassMember → Type 0
    Made old new wrote o = IfThere (MemberMade x ts by old new wrote) o

    module _ (old new : Draft) (wrote : Bool) (r : Range) (p : Value) where
      pub generator_labelled : Made old new wrote (method_member ts vMethod.Method false true r p 1)
          → Made old new wrote (member_of x ts l.GeneratorMember r p)
      unfolding member_of
      generator_labelled h = h

      pub method_labelled : Made old new wrote (method_member ts vMethod.Method false false r p 1)
          → Made old new wrote (member_of x ts l.MethodMember r p)
      unfolding member_of
      method_labelled h = h

      pub async_labelled : Made old new wrote (method_member ts vMethod.Method true (is_there (group p 1)) r p 2)
          → Made old new wrote (member_of x ts l.AsyncMember r p)
      unfolding member_of
      async_labelled h = h

      pub accessor_labelled : Made old new wrote (accessor_member ts r p)
          → Made old new wrote (member_of x ts l.AccessorMember r p)
      unfolding member_of
      accessor_labelled h = h

      pub field_labelled : Made old new wrote (field_member false r p)
          → Made old new wrote (member_of x ts l.FieldMember r p)
      unfolding member_of
      field_labelled h = h

      pub accessor_field_labelled : Made old new wrote (field_member true r p)
          → Made old new wrote (member_of x ts l.AccessorField r p)
      unfolding member_of
      accessor_field_labelled h = h

      pub typed_generator_labelled : Made old new wrote (typed_method_member ts vMethod.Method false true r p 1)
          → Made old new wrote (member_of x ts l.TypedGeneratorMember r p)
      unfolding member_of
      typed_generator_labelled h = h

      pub typed_method_labelled : Made old new wrote (typed_method_member ts vMethod.Method false false r p 1)
          → Made old new wrote (member_of x ts l.TypedMethodMember r p)
      unfolding member_of
      typed_method_labelled h = h

      pub typed_async_labelled : Made old new wrote
          (typed_method_member ts vMethod.Method true (is_there (group p 1)) r p 2)
          → Made old new wrote (member_of x ts l.TypedAsyncMember r p)
      unfolding member_of
      typed_async_labelled h = h

      pub typed_accessor_labelled : Made old new wrote (typed_accessor_member ts r p)
          → Made old new wrote (member_of x ts l.TypedAccessorMember r p)
      unfolding member_of
      typed_accessor_labelled h = h

      pub typed_field_labelled : Made old new wrote (typed_field ts false r p)
          → Made old new wrote (member_of x ts l.TypedFieldMember r p)
      unfolding member_of
      typed_field_labelled h = h

      pub typed_accessor_field_labelled : Made old new wrote (typed_field ts true r p)
          → Made old new wrote (member_of x ts l.TypedAccessorField r p)
      unfolding member_of
      typed_accessor_field_labelled h = h
