-- What members and enums are, by what is written of them.
use Rattle.std.specs.Prelude.{ℕ, Bool, true, false, List, [], ◌∷◌, ◌++◌, Option, Some, None, option_map, map, length}
use Rattle.std.proofs.Common.{◌≡◌, refl, sym, ap, subst, ◌∙◌}
use Rattle.base.specs.declared.range.Range.{Range}
use Rattle.es_token.specs.declared.token.Token.{Token}
use Rattle.es_grammar.specs.declared.rows.NodeKind.{NodeKind}
use Rattle.es_grammar.specs.declared.rows.NodeKind.TheVariants as l
use Rattle.es_ast.specs.declared.ts.leaf.Ident.{Ident}
use Rattle.es_ast.specs.declared.ast.Decl.TheVariants as vDecl
use Rattle.es_ast.specs.declared.ast.Expr.{Expr}
use Rattle.es_ast.specs.declared.ast.TsEnumMember.{TsEnumMember, roll-TsEnumMember}
use Rattle.es_ast.specs.declared.ast.ClassMember.TheOpen.{Decl-F}
use Rattle.es_lowering.specs.Value.{Value, absent, nil, more, token, node, given, part, as_group, group, is_there, optional, turns, expr_at, key_at, first_of, behind}
use Rattle.es_lowering.specs.Texts.{span_of, ident_at}
use Rattle.es_lowering.specs.TypeNames.{behind_in}
use Rattle.es_lowering.specs.TypedStatements.{Declarable, enum_, enum_member}
use Rattle.es_lowering.specs.Lowering.{packed, build, decl_of, declarable_of}
use Rattle.es_syntax.specs.declared.entry.What.{What}
use Rattle.es_syntax.specs.declared.entry.What.TheVariants as vWhat
use Rattle.es_syntax.specs.declared.cursor.Item.{Item}
use Rattle.es_syntax.specs.Held.{held, made, node_of, parts_of, valued}
use Rattle.es_syntax.specs.Places.{place_of}
use Rattle.es_syntax.specs.Roles.{declarable_in, expr_in, key_in}
use Rattle.es_changed.specs.declared.entry.Change.TheVariants as change
use Rattle.es_changed.specs.declared.entry.ChangedEntry.{ChangedEntry}
use Rattle.es_changed.specs.Shape.{closed, opened, Writes}
use Rattle.es_changed.proofs.Written.{both_written, group_written, node_written}
use Rattle.es_changed.proofs.Equations.{with_enum}
use Rattle.dts_rules.specs.Made.{if_true}
use Rattle.dts_rules.specs.Rules.{Env, ShownDecl, State}
use Rattle.dts_rules.specs.Programs.{shown_decl, shown_enum_member, shown_expr}
use Rattle.dts_rules.proofs.Shown.{at_decl, at_enum_member, with_enum_member}
use Rattle.dts_draft.specs.declared.draft.Draft.{Draft}
use Rattle.dts_draft.specs.Drafts.{state_of}
use Rattle.dts_draft.specs.Written.{IfThere}
use Rattle.dts_draft.proofs.Lists.{as_packed, puts_none, puts_both, read_turns}
use Rattle.dts_enums.specs.Forms.{Starts}
use Rattle.dts_enums.specs.Enums.{Copies, Something, KeyUpTo, IsBare, MemberPuts, MembersPut, Declares, in_turn}

module _ (x : List ℕ) (ts : List Token) where
  -- ---- keys
  -- a key is what its parts are, wherever it stands
  pub key_written : (label : NodeKind) (i : Item) (to place : ℕ) (old begun mid gone new : List ChangedEntry)
      → i.what ≡ vWhat.Node label → begun ≡ old ++ opened → place ≡ length old
      → Copies x ts begun mid (held x ts i.parts.entries.now) → Writes x ts mid gone []
      → new ≡ closed (change.Old (vWhat.Node label)) i.from to place gone
      → KeyUpTo x ts old new (valued x ts i) to
  unfolding build
  key_written label i to place old begun mid gone new is eo ep c w e = record {
    value = node_of x ts label i.from to (packed c.values);
    writes = node_written x ts label i.from to place old begun gone new c.values eo ep
        (subst (λ (vs : List Value). Writes x ts begun gone vs) (plain c.values)
        (both_written x ts begun mid gone c.values [] c.writes w)) e;
    is = ap (λ (p : Value). key_in (node_of x ts label i.from to p)) c.are ∙ sym (ap key_in (at_node i label is));
    from = sym (ap first_of (at_node i label is));
    ends = refl;
  }
    where
      plain : (vs : List Value) → vs ++ [] ≡ vs
      plain [] = refl
      plain (v ∷ vs) = ap (λ (vs : List Value). v ∷ vs) (plain vs)

      at_node : (i : Item) (label : NodeKind) → i.what ≡ vWhat.Node label
          → valued x ts i ≡ node_of x ts label i.from i.to (held x ts i.parts.entries.now)
      at_node i label is =
          ap (λ (w : What). made x ts w i.from i.to (held x ts i.parts.entries.now) (parts_of x ts i.parts.entries.now))
          is

  -- ---- members without a value
  pub bare_written : (key : Value) (to place : ℕ) (old begun mid none more_ new : List ChangedEntry)
      → begun ≡ old ++ opened → place ≡ length old → KeyUpTo x ts begun mid key to → Writes x ts mid none (nil ∷ [])
      → Something x ts none more_ → new ≡ closed (change.Old vWhat.Parts) 0 0 place more_
      → IsBare x ts old new key to
  bare_written key to place old begun mid none more_ new eo ep k n s e = record {
    value = k.value;
    others = s.values;
    writes = group_written x ts 0 0 place old begun more_ new (k.value ∷ nil ∷ s.values) eo ep
        (both_written x ts begun mid more_ (k.value ∷ []) (nil ∷ s.values) k.writes
        (both_written x ts mid none more_ (nil ∷ []) s.values n s.writes)) e;
    is = k.is;
    from = k.from;
    ends = k.ends;
  }

  pub bare_at : (old new : List ChangedEntry) (p key rest v : Value) (from to end : ℕ) → p ≡ more key rest
      → place_of v ≡ Some (from, to) → IsBare x ts old new key to → IsBare x ts old new (part p 0) (behind v)
  bare_at old new p key rest v from to end e at b =
      subst (λ (n : ℕ). IsBare x ts old new (part p 0) n) (ends v at)
      (subst (λ (p : Value). IsBare x ts old new (part p 0) to) (sym e) b)
    where
      ends : (v : Value) → place_of v ≡ Some (from, to) → to ≡ behind v
      ends (node f t m) e = sym (ap second e)
        where
          second : Option (ℕ × ℕ) → ℕ
          second (Some p) = p.1
          second None = 0
      ends absent e = let bad : ⊥ = cc in absurd bad
      ends nil e = let bad : ⊥ = cc in absurd bad
      ends (token n) e = let bad : ⊥ = cc in absurd bad
      ends (more u us) e = let bad : ⊥ = cc in absurd bad

-- ---- what members show
abbrev a_member : Bool × Expr → Option Expr → Range → TsEnumMember
a_member key init span = roll-TsEnumMember (record { computed = key.0; id = key.1; init = init; span = span })

abbrev value_of : {A : Type 0} → A → Option A → A
value_of other (Some a) = a
value_of other None = other

module _ (by : Env) where
  shown_none : (key : Bool × Expr) (span : Range)
      → shown_enum_member by (a_member key None span) ≡ a_member key None span
  shown_none key span = at_enum_member by (record { computed = key.0; id = key.1; init = None; span = span })

  shown_some : (key : Bool × Expr) (e : Expr) (span : Range) (b : Bool) → (shown_expr by e).starts_enum ≡ b
      → shown_enum_member by (a_member key (Some e) span) ≡ a_member key (if_true b e) span
  shown_some key e span b is =
      at_enum_member by (record { computed = key.0; id = key.1; init = Some e; span = span })
      ∙ ap (λ (b : Bool). a_member key (if_true b e) span) is

  module _ (x : List ℕ) (ts : List Token) (old new : List ChangedEntry) where
    -- a member that its declaration keeps as it is
    stays : (v : Value) → Writes x ts old new (v ∷ [])
        → ((m : TsEnumMember) → in_turn x ts v ≡ Some m → shown_enum_member by m ≡ m)
        → IfThere (MemberPuts x ts by old new) (in_turn x ts v)
    stays v w same = go (in_turn x ts v) refl
      where
        go : (o : Option TsEnumMember) → in_turn x ts v ≡ o → IfThere (MemberPuts x ts by old new) o
        go None e = record { is = tt }
        go (Some m) e = record { is = record { value = v; writes = w; is = e ∙ ap Some (sym (same m e)) } }

    -- what a member is, where its value is none and where it is this one
    abbrev place_at : Value → Range
    place_at turn = span_of ts (first_of (part turn 0)) (behind_in (group turn 1) (behind (part turn 0)))

    abbrev member_by : Option (Bool × Expr) → Option (Option Expr) → Range → Option TsEnumMember
    member_by k o span = given k (λ key. given o (λ value. Some (a_member key value span)))

    of_none : (k : Option (Bool × Expr)) (span : Range) (m : TsEnumMember) → member_by k (Some None) span ≡ Some m
        → shown_enum_member by m ≡ m
    of_none None span m e = let bad : ⊥ = cc in absurd bad
    of_none (Some key) span m e =
        subst (λ (m : TsEnumMember). shown_enum_member by m ≡ m) (ap (value_of m) e) (shown_none key span)

    of_kept : (k : Option (Bool × Expr)) (o : Option Expr) (span : Range) (m : TsEnumMember) → Starts by true o
        → member_by k (option_map Some o) span ≡ Some m → shown_enum_member by m ≡ m
    of_kept None o span m known e = let bad : ⊥ = cc in absurd bad
    of_kept (Some key) None span m known e = let bad : ⊥ = cc in absurd bad
    of_kept (Some key) (Some it) span m known e =
        subst (λ (m : TsEnumMember). shown_enum_member by m ≡ m) (ap (value_of m) e) (shown_some key it span true known)

    of_bare : (k : Option (Bool × Expr)) (o : Option Expr) (span : Range) (m : TsEnumMember) → Starts by false o
        → member_by k (option_map Some o) span ≡ Some m
        → member_by k (Some None) span ≡ Some (shown_enum_member by m)
    of_bare None o span m known e = let bad : ⊥ = cc in absurd bad
    of_bare (Some key) None span m known e = let bad : ⊥ = cc in absurd bad
    of_bare (Some key) (Some it) span m known e =
        ap Some (sym (shown_some key it span false known) ∙ ap (shown_enum_member by) (ap (value_of m) e))

    pub member_none : (v p g : Value) → p ≡ as_group v → g ≡ group p 1 → g ≡ nil → Writes x ts old new (v ∷ [])
        → IfThere (MemberPuts x ts by old new) (enum_member ts (as_group v))
    member_none v p g ep eg none w =
        stays v w (λ m e.
        of_none (key_at (as_group v) 0) (place_at (as_group v)) m
        (sym (ap (λ (g : Value). member_by (key_at (as_group v) 0) (optional expr_at g) (place_at (as_group v)))
        (sym (ap (λ (p : Value). group p 1) ep) ∙ (sym eg ∙ none))) ∙ e))

    pub member_kept : (v p g w ws : Value) → p ≡ as_group v → g ≡ group p 1 → g ≡ more w ws → Starts by true (expr_in w)
        → Writes x ts old new (v ∷ []) → IfThere (MemberPuts x ts by old new) (enum_member ts (as_group v))
    member_kept v p g w ws ep eg some_ known wr =
        stays v wr (λ m e.
        of_kept (key_at (as_group v) 0) (expr_in w) (place_at (as_group v)) m known
        (sym (ap (λ (g : Value). member_by (key_at (as_group v) 0) (optional expr_at g) (place_at (as_group v)))
        (sym (ap (λ (p : Value). group p 1) ep) ∙ (sym eg ∙ some_))) ∙ e))

    pub member_bare : (v p g w ws : Value) → p ≡ as_group v → g ≡ group p 1 → g ≡ more w ws
        → Starts by false (expr_in w) → IsBare x ts old new (part p 0) (behind w)
        → IfThere (MemberPuts x ts by old new) (enum_member ts (as_group v))
    member_bare v p g w ws ep eg some_ known b = go (in_turn x ts v) refl
      where
        grouped : group (as_group v) 1 ≡ more w ws
        grouped = sym (ap (λ (p : Value). group p 1) ep) ∙ (sym eg ∙ some_)

        key_is : key_in b.value ≡ key_at (as_group v) 0
        key_is = b.is ∙ ap (λ (p : Value). key_at p 0) ep

        span_is : span_of ts (first_of b.value) (behind b.value) ≡ place_at (as_group v)
        span_is =
            ap (λ (n : ℕ). span_of ts n (behind b.value)) (b.from ∙ ap (λ (p : Value). first_of (part p 0)) ep)
            ∙ (ap (λ (n : ℕ). span_of ts (first_of (part (as_group v) 0)) n) b.ends
            ∙ ap (λ (g : Value). span_of ts (first_of (part (as_group v) 0))
            (behind_in g (behind (part (as_group v) 0)))) (sym grouped))

        go : (o : Option TsEnumMember) → in_turn x ts v ≡ o → IfThere (MemberPuts x ts by old new) o
        go None e = record { is = tt }
        go (Some m) e = record {
          is = record {
            value = packed (b.value ∷ nil ∷ b.others);
            writes = b.writes;
            is = ap (λ (k : Option (Bool × Expr)). member_by k (Some None)
                (span_of ts (first_of b.value) (behind b.value))) key_is
                ∙ (ap (λ (span : Range). member_by (key_at (as_group v) 0) (Some None) span) span_is
                ∙ of_bare (key_at (as_group v) 0) (expr_in w) (place_at (as_group v)) m known
                (sym (ap (λ (g : Value). member_by (key_at (as_group v) 0) (optional expr_at g)
                (place_at (as_group v))) grouped) ∙ e));
          };
        }

  -- ---- all members
  module _ (x : List ℕ) (ts : List Token) where
    abbrev Rest : List ChangedEntry → List ChangedEntry → Value → Type 0
    Rest old new row = IfThere (MembersPut x ts by old new) (turns (enum_member ts) row)

    -- what is left leads to all
    pub record MembersLeft (start now : List ChangedEntry) (all left : Value) : Type 0 where
      pub leads : (new : List ChangedEntry) → Rest now new left → Rest start new all

    pub members_all : (start : List ChangedEntry) (all : Value) → MembersLeft start start all all
    members_all start all = record { leads = λ new h. h }

    more_members : (old mid new : List ChangedEntry) (o : Option TsEnumMember) (os : Option (List TsEnumMember))
        → IfThere (MemberPuts x ts by old mid) o → IfThere (MembersPut x ts by mid new) os
        → IfThere (MembersPut x ts by old new) (given o (λ a. given os (λ rest. Some (a ∷ rest))))
    more_members old mid new None os p q = record { is = tt }
    more_members old mid new (Some m) None p q = record { is = tt }
    more_members old mid new (Some m) (Some ms) p q = record {
      is = puts_both x ts (in_turn x ts) old mid new (shown_enum_member by m ∷ []) (map (shown_enum_member by) ms)
          (record { values = p.is.value ∷ []; writes = p.is.writes; are = ap (λ o. o ∷ []) p.is.is }) q.is;
    }

    pub members_next : (start now next : List ChangedEntry) (all left v rest : Value) → left ≡ more v rest
        → MembersLeft start now all left → IfThere (MemberPuts x ts by now next) (enum_member ts (as_group v))
        → MembersLeft start next all rest
    members_next start now next all left v rest e before p = record {
      leads = λ new h.
          before.leads new (subst (λ (w : Value). Rest now new w) (sym e)
          (more_members now next new (enum_member ts (as_group v)) (turns (enum_member ts) rest) p h));
    }

    pub members_done : (start now : List ChangedEntry) (all left : Value) → left ≡ nil → MembersLeft start now all left
        → Rest start now all
    members_done start now all left e before =
        before.leads now (subst (λ (w : Value). Rest now now w) (sym e)
        (record { is = puts_none x ts (in_turn x ts) now }))

    -- ---- an enum
    shown_each : (ms : List TsEnumMember)
        → map (λ (m : TsEnumMember × TsEnumMember). m.1) (map (with_enum_member by) ms) ≡ map (shown_enum_member by) ms
    shown_each [] = refl
    shown_each (m ∷ ms) = ap (λ rest. shown_enum_member by m ∷ rest) (shown_each ms)

    declared_is : (declare is_const : Bool) (id : Ident) (ms : List TsEnumMember) (r : Range) (top : Bool) (s : State)
        → (shown_decl by (vDecl.TsEnum declare is_const id ms r)).declared top s
        ≡ (Some (vDecl.TsEnum top is_const id (map (shown_enum_member by) ms) r), s)
    declared_is declare is_const id ms r top s =
        ap (λ (k : ShownDecl). k.declared top s)
        (ap (shown_decl by) (sym (vDecl.rolls-TsEnum declare is_const id ms r))
        ∙ at_decl by (Decl-F.TsEnum declare is_const id ms r))
        ∙ ap (λ (them : List TsEnumMember). (Some (vDecl.TsEnum top is_const id them r), s)) (shown_each ms)

    defaulted_is : (declare is_const : Bool) (id : Ident) (ms : List TsEnumMember) (r : Range) (s : State)
        → (shown_decl by (vDecl.TsEnum declare is_const id ms r)).defaulted s
        ≡ (vDecl.TsEnum declare is_const id (map (shown_enum_member by) ms) r, s)
    defaulted_is declare is_const id ms r s =
        ap (λ (k : ShownDecl). k.defaulted s)
        (ap (shown_decl by) (sym (vDecl.rolls-TsEnum declare is_const id ms r))
        ∙ at_decl by (Decl-F.TsEnum declare is_const id ms r))
        ∙ ap (λ (them : List TsEnumMember). (vDecl.TsEnum declare is_const id them r, s)) (shown_each ms)

    -- over changed members
    read_enum : (p : Value) (id : Ident) (them : List TsEnumMember) (vs : List Value) → ident_at x ts p 1 ≡ Some id
        → turns (enum_member ts) (packed vs) ≡ Some them
        → enum_ x ts (packed (part p 0 ∷ part p 1 ∷ packed vs ∷ []))
        ≡ Some (λ declare r. vDecl.TsEnum declare (is_there (group p 0)) id them r)
    unfolding enum_
    read_enum p id them vs e f =
        ap (λ (o : Option Ident). given o (λ id. given (turns (enum_member ts) (as_group (packed vs))) (λ members.
        Some (λ declare r. vDecl.TsEnum declare (is_there (group p 0)) id members r)))) e
        ∙ ap (λ (o : Option (List TsEnumMember)). given o (λ members.
        Some (λ declare r. vDecl.TsEnum declare (is_there (group p 0)) id members r)))
        (ap (turns (enum_member ts)) (as_packed vs) ∙ f)

    pub enum_written : (old begun named_ marked_ grouped filled closed_ new : Draft) (from to place spot : ℕ)
        (p : Value)
        → begun.row ≡ old.row ++ opened → place ≡ length old.row → Writes x ts begun.row marked_.row (part p 0 ∷ [])
        → Writes x ts marked_.row named_.row (part p 1 ∷ []) → grouped.row ≡ named_.row ++ opened
        → spot ≡ length named_.row → Rest grouped.row filled.row (group p 2)
        → closed_.row ≡ closed (change.Old vWhat.Parts) 0 0 spot filled.row
        → new.row ≡ closed (change.Old (vWhat.Node l.EnumDeclaration)) from to place closed_.row
        → state_of new ≡ state_of old
        → IfThere (Declares x ts by old new (span_of ts from to)) (enum_ x ts p)
    unfolding enum_ build declarable_of decl_of
    enum_written old begun named_ marked_ grouped filled closed_ new from to place spot p eo ep w0 w1 eg es ms ec en
        sn =
        go (ident_at x ts p 1) refl (turns (enum_member ts) (group p 2)) ms
      where
        go : (o : Option Ident) → ident_at x ts p 1 ≡ o → (os : Option (List TsEnumMember))
            → IfThere (MembersPut x ts by grouped.row filled.row) os
            → IfThere (Declares x ts by old new (span_of ts from to)) (given o (λ id. given os (λ members.
            Some (λ declare r. vDecl.TsEnum declare (is_there (group p 0)) id members r))))
        go None e os h = record { is = tt }
        go (Some id) e None h = record { is = tt }
        go (Some id) e (Some members) h =
            let them : List TsEnumMember = map (shown_enum_member by) members in
            let it : Declarable = λ declare r. vDecl.TsEnum declare (is_there (group p 0)) id them r in
            let reads : enum_ x ts (packed (part p 0 ∷ part p 1 ∷ packed h.is.values ∷ [])) ≡ Some it =
            read_enum p id them h.is.values e (read_turns (enum_member ts) h.is.values them h.is.are) in
            record {
              is = record {
                value = node_of x ts l.EnumDeclaration from to (packed (part p 0 ∷ part p 1 ∷ packed h.is.values ∷ []));
                writes = node_written x ts l.EnumDeclaration from to place old.row begun.row closed_.row new.row
                    (part p 0 ∷ part p 1 ∷ packed h.is.values ∷ []) eo ep
                    (both_written x ts begun.row marked_.row closed_.row (part p 0 ∷ [])
                    (part p 1 ∷ packed h.is.values ∷ [])
                    w0
                    (both_written x ts marked_.row named_.row closed_.row (part p 1 ∷ []) (packed h.is.values ∷ []) w1
                    (group_written x ts 0 0 spot named_.row grouped.row filled.row closed_.row h.is.values eg es
                    h.is.writes
                    ec))) en;
                it = it;
                is = reads;
                decl = ap (λ (o : Option Declarable). option_map (λ decl. decl false (span_of ts from to)) o) reads;
                declared = λ declare top r.
                    declared_is declare (is_there (group p 0)) id members r top (state_of old)
                    ∙ ap (λ (s : State). (Some (it top r), s)) (sym sn);
                defaulted = λ declare r.
                    defaulted_is declare (is_there (group p 0)) id members r (state_of old)
                    ∙ ap (λ (s : State). (it declare r, s)) (sym sn);
                marked = λ declare again r. with_enum again declare (is_there (group p 0)) id them r;
              };
            }

    -- at its place
    pub enum_there : (old new : Draft) (i : Item) (label : NodeKind) → i.what ≡ vWhat.Node label
        → label ≡ l.EnumDeclaration
        → IfThere (Declares x ts by old new (span_of ts i.from i.to)) (enum_ x ts (held x ts i.parts.entries.now))
        → IfThere (Declares x ts by old new (span_of ts i.from i.to)) (declarable_in (valued x ts i))
    unfolding build declarable_of
    enum_there old new i label is e known =
        let P : What → Type 0 = λ w. IfThere (Declares x ts by old new (span_of ts i.from i.to)) (declarable_in
        (made x ts w i.from i.to (held x ts i.parts.entries.now) (parts_of x ts i.parts.entries.now))) in
        subst P (sym (is ∙ ap (λ (label : NodeKind). vWhat.Node label) e)) known
