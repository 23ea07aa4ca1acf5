-- What parameters are as parameters of types, by what is written of them.
use Rattle.std.specs.Prelude.{ℕ, ◌+◌, ◌-◌, Bool, true, false, List, [], ◌∷◌, ◌++◌, length, take, Option, Some, None, option_map, map, if◌then◌else◌, IfSome, slice_get}
use Rattle.std.proofs.Common.{◌≡◌, refl, sym, ap, subst, ◌∙◌}
use Rattle.std.proofs.lemmas.Bool.{true≢false}
use Rattle.base.specs.declared.range.Range.{Range}
use Rattle.es_token.specs.declared.token.Token.{Token}
use Rattle.es_grammar.specs.declared.rows.NodeKind.{NodeKind}
use Rattle.es_grammar.specs.declared.rows.NodeKind.TheVariants as l
use Rattle.es_ast.specs.declared.ts.leaf.Ident.{Ident}
use Rattle.es_ast.specs.declared.ts.ts.TsFnParam.{TsFnParam}
use Rattle.es_ast.specs.declared.ts.ts.TsParamPat.{TsParamPat}
use Rattle.es_ast.specs.declared.ts.ts.TsParamPat.TheVariants as vTsPat
use Rattle.es_ast.specs.declared.ts.ts.TsPart.{TsPart}
use Rattle.es_ast.specs.declared.ts.ts.TsPart.TheVariants as vPart
use Rattle.es_ast.specs.declared.ts.ts.TsType.{TsType}
use Rattle.es_ast.specs.declared.leaf.Modifiers.{Modifiers}
use Rattle.es_ast.specs.declared.ast.Expr.{Expr}
use Rattle.es_ast.specs.declared.ast.ObjectPatProp.{ObjectPatProp}
use Rattle.es_ast.specs.declared.ast.Param.{Param, roll-Param}
use Rattle.es_ast.specs.declared.ast.Pat.{Pat, roll-Pat, out-Pat, out-roll-Pat}
use Rattle.es_ast.specs.declared.ast.Pat.TheVariants as vPat
use Rattle.es_ast.specs.declared.ast.ClassMember.TheOpen.{Pat-F}
use Rattle.es_site.specs.Parts.{Whole}
use Rattle.es_lowering.specs.Value.{Value, absent, nil, more, token, node, given, part, as_group, group, is_there, optional, option_list, turns, expr_at, param_at, pat_at, pat_prop_at, type_at, first_of, behind}
use Rattle.es_lowering.specs.Texts.{ident_of, ident_at, span_of, end_before, token_of}
use Rattle.es_lowering.specs.Expressions.{elements}
use Rattle.es_lowering.specs.Patterns.{with_default}
use Rattle.es_lowering.specs.Functions.{plain, name_param, param_of, rest_at, rest_of}
use Rattle.es_lowering.specs.TypeNames.{behind_in}
use Rattle.es_lowering.specs.TypeTexts as type_texts
use Rattle.es_lowering.specs.TypedParts as typed_parts
use Rattle.es_lowering.specs.TypedParts.{marked_by, modifiers_in, param_by, typed_rest_at, typed_rest_of}
use Rattle.es_lowering.specs.Lowering.{packed, build, marked_of, same_label}
use Rattle.es_syntax.specs.declared.entry.Lean.{Lean}
use Rattle.es_syntax.specs.declared.entry.Lean.TheVariants as vLean
use Rattle.es_syntax.specs.declared.entry.What.{What}
use Rattle.es_syntax.specs.declared.entry.What.TheVariants as vWhat
use Rattle.es_syntax.specs.declared.cursor.Item.{Item}
use Rattle.es_syntax.specs.Held.{held, label_of, made, parts_of, valued}
use Rattle.es_syntax.specs.Roles.{expr_in, fn_param_in, fn_params_in, marked_in, pat_in, ts_type_in, type_name_in, type_pat_in}
use Rattle.es_syntax.proofs.Others.{in_held, in_role, in_leant}
use Rattle.es_changed.specs.declared.entry.Change.TheVariants as change
use Rattle.es_changed.specs.declared.entry.Form.{Form}
use Rattle.es_changed.specs.declared.entry.Form.TheVariants as form
use Rattle.es_changed.specs.declared.entry.ChangedEntry.{ChangedEntry}
use Rattle.es_changed.specs.Formed.{formed, made_symbol, marked_name}
use Rattle.es_changed.specs.Shape.{closed, named, opened, Writes}
use Rattle.es_changed.proofs.Written.{nothing_written, gone_written, both_written, form_written, group_written, name_written, taken_open}
use Rattle.es_view_expressions.specs.pattern.Marked as marked_view
use Rattle.es_view_expressions.specs.pattern.Pat as pat_view
use Rattle.es_view_statements.specs.param.Param as param_view
use Rattle.es_view_statements.specs.param.Params as params_view
use Rattle.dts_rules.specs.Made.{nowhere, made_name}
use Rattle.dts_rules.specs.Rules as rules
use Rattle.dts_rules.specs.Rules.{Env, State, ShownPat, ShownParam, after, drawn, fn_param, in_turn, some, in_pat}
use Rattle.dts_rules.specs.Sets.{type_in}
use Rattle.dts_rules.specs.Programs.{shown_expr, shown_pat, shown_param}
use Rattle.dts_rules.proofs.Shown.{at_pat, at_param, beside_pat, with_pat}
use Rattle.dts_draft.specs.declared.draft.Draft.{Draft}
use Rattle.dts_draft.specs.Drafts.{state_of}
use Rattle.dts_draft.specs.Written.{IfThere, Puts, PutsAll}
use Rattle.dts_draft.proofs.There.{lifted, mapped, made as made_there, given_any, one, none}
use Rattle.dts_draft.proofs.Lists.{puts_none, read_each}
use Rattle.dts_leaves.proofs.NumberLemmas.{token_span}
use Rattle.dts_patterns.specs.Patterns.{pattern, IsName, IsPattern, IsMarked}
use Rattle.dts_types.specs.declared.ask.Ask.{Ask}
use Rattle.dts_types.specs.Types.{param_step, default_step, Answers, Infers, AreParams, InTurn, Something, Turned}
use Rattle.dts_types.specs.Params.{Annotates, Marks, Unmarked, Typed, DefaultTyped, IsSimple}
use Rattle.dts_types.proofs.TurnLemmas.{turn_none, turn_one, turn_both}

nowhere_span : (ts : List Token) → span_of ts 0 0 ≡ nowhere
unfolding span_of end_before
nowhere_span ts = refl

own_name : (x : List ℕ) (t : Token) → rules.marked false (ident_of x t) ≡ ident_of x t
unfolding ident_of
own_name x t = refl

marked_own : (x : List ℕ) (mark : Bool) (t : Token)
    → rules.marked false (type_texts.marked mark (ident_of x t)) ≡ ident_of x t
unfolding ident_of
marked_own x mark t = refl

abbrev ident_or : Ident → Option Ident → Ident
ident_or d (Some a) = a
ident_or d None = d

module _ (x : List ℕ) (ts : List Token) where
  -- ---- written forms
  param_is : (from to : ℕ) (v u w : Value) (mark : Bool) (written pat : TsParamPat) (ty : Option TsType)
      → type_pat_in v ≡ Some written → is_there (as_group u) ≡ mark → optional type_at (as_group w) ≡ Some ty
      → marked_name x ts mark (type_name_in v) written ≡ pat
      → fn_param_in (formed x ts form.Param from to (packed (v ∷ u ∷ w ∷ [])))
      ≡ Some (fn_param false mark (span_of ts from to) pat ty)
  param_is from to v u w mark written pat ty e m t p =
      ap (λ (o : Option TsParamPat). given o (λ pat. given (optional type_at (as_group w)) (λ ty.
      Some (fn_param false (is_there (as_group u)) (span_of ts from to)
      (marked_name x ts (is_there (as_group u)) (type_name_in v) pat) ty)))) e
      ∙ (ap (λ (b : Bool). given (optional type_at (as_group w)) (λ ty.
      Some (fn_param false b (span_of ts from to) (marked_name x ts b (type_name_in v) written) ty))) m
      ∙ (ap (λ (o : Option (Option TsType)). given o (λ ty.
      Some (fn_param false mark (span_of ts from to) (marked_name x ts mark (type_name_in v) written) ty))) t
      ∙ ap (λ (pat : TsParamPat). Some (fn_param false mark (span_of ts from to) pat ty)) p))

  rest_is : (from to : ℕ) (v u w : Value) (pat : TsParamPat) (ty : Option TsType) → type_pat_in v ≡ Some pat
      → optional type_at (as_group w) ≡ Some ty
      → fn_param_in (formed x ts form.RestParam from to (packed (v ∷ u ∷ w ∷ [])))
      ≡ Some (fn_param true false (span_of ts from to) pat ty)
  rest_is from to v u w pat ty e t =
      ap (λ (o : Option TsParamPat). given o (λ pat. given (optional type_at (as_group w)) (λ ty.
      Some (fn_param true false (span_of ts from to) pat ty)))) e
      ∙ ap (λ (o : Option (Option TsType)). given o (λ ty. Some (fn_param true false (span_of ts from to) pat ty))) t

  -- ---- a parameter, or none
  turned_by : {A : Type 0} (f : A → State → Option TsFnParam × State) (a : A) (old new : Draft) (fp : TsFnParam)
      (s : State) → f a (state_of old) ≡ (Some fp, s) → state_of new ≡ s → Puts x ts fn_param_in old.row new.row fp
      → Turned x ts fn_param_in f old new a
  turned_by f a old new fp s e es p = record {
    state = es ∙ ap (λ (t : Option TsFnParam × State). t.1) (sym e);
    puts = subst (λ (o : Option TsFnParam). PutsAll x ts fn_param_in old.row new.row (some (o ∷ [])))
        (ap (λ (t : Option TsFnParam × State). t.0) (sym e))
        (record { values = p.value ∷ []; writes = p.writes; are = ap (λ (o : Option TsFnParam). o ∷ []) p.is });
  }

  turned_none : {A : Type 0} (f : A → State → Option TsFnParam × State) (a : A) (old new : Draft) (s : State)
      → f a (state_of old) ≡ (None, s) → state_of new ≡ s → new.row ≡ old.row → Turned x ts fn_param_in f old new a
  turned_none f a old new s e es er = record {
    state = es ∙ ap (λ (t : Option TsFnParam × State). t.1) (sym e);
    puts = subst (λ (o : Option TsFnParam). PutsAll x ts fn_param_in old.row new.row (some (o ∷ [])))
        (ap (λ (t : Option TsFnParam × State). t.0) (sym e))
        (subst (λ (row : List ChangedEntry). PutsAll x ts fn_param_in old.row row []) (sym er)
        (puts_none x ts fn_param_in old.row));
  }

  -- ---- marks and types
  pub mark_there : (old new : List ChangedEntry) (row v vs : Value) → row ≡ more v vs
      → Writes x ts old new (packed (formed x ts form.Optional 0 0 nil ∷ []) ∷ []) → Marks x ts old new row
  mark_there old new row v vs e w =
      record { value = packed (formed x ts form.Optional 0 0 nil ∷ []); writes = w; is = ap is_there (sym e) }

  pub mark_none : (old new : List ChangedEntry) (row : Value) → row ≡ nil → Writes x ts old new (nil ∷ [])
      → Marks x ts old new row
  mark_none old new row e w = record { value = nil; writes = w; is = ap is_there (sym e) }

  pub annotation_there : (old new : List ChangedEntry) (row v vs : Value) → row ≡ more v vs
      → Writes x ts old new (packed (formed x ts form.Annotation 0 0 (packed (v ∷ [])) ∷ []) ∷ [])
      → Annotates x ts old new row
  annotation_there old new row v vs e w = record {
    value = packed (formed x ts form.Annotation 0 0 (packed (v ∷ [])) ∷ []);
    writes = w;
    is = ap (optional type_at) (sym e);
  }

  pub annotation_none : (old new : List ChangedEntry) (row : Value) → row ≡ nil → Writes x ts old new (nil ∷ [])
      → Annotates x ts old new row
  annotation_none old new row e w = record { value = nil; writes = w; is = ap (optional type_at) (sym e) }

  -- a part is a type or none, as it reads
  abbrev Ann : Value → Option (Option TsPart)
  Ann v = option_map (λ ty. option_map vPart.TypeAnn ty) (optional type_at v)

  abbrev some_type : Option (Option TsPart) → Option (Option TsType)
  some_type (Some a) = Some (type_in a)
  some_type None = None

  read_type : (v : Value) (a : Option TsPart) → Ann v ≡ Some a → optional type_at v ≡ Some (type_in a)
  read_type v a e = go (optional type_at v) e
    where
      go : (o : Option (Option TsType)) → option_map (λ ty. option_map vPart.TypeAnn ty) o ≡ Some a
          → o ≡ Some (type_in a)
      go None e = let bad : ⊥ = cc in absurd bad
      go (Some None) e = ap (λ (b : Option (Option TsPart)). some_type b) e
      go (Some (Some ty)) e = ap (λ (b : Option (Option TsPart)). some_type b) e

  -- of whatever it reads
  given_read : {Q : Option TsPart → Type 0} (v : Value) → ((a : Option TsPart) → Ann v ≡ Some a → Q a)
      → IfThere Q (Ann v)
  given_read {Q = Q} v h = go (Ann v) refl
    where
      go : (o : Option (Option TsPart)) → Ann v ≡ o → IfThere Q o
      go None e = record { is = tt }
      go (Some a) e = record { is = h a e }

module _ (env : Env) where
  -- ---- what patterns are as parameters
  as_by : (it : Pat) (w : Whole Pat-F) → roll-Pat w ≡ it → (place : Range) (s : State)
      → (shown_pat env it).as_type place s ≡ (in_pat env (beside_pat env w)).as_type place s
  as_by it w rolls place s =
      ap (λ (k : ShownPat). k.as_type place s) (ap (shown_pat env) (sym rolls) ∙ at_pat env w)

  pattern_by : (it : Pat) (w : Whole Pat-F) → roll-Pat w ≡ it → pattern env it ≡ (in_pat env (beside_pat env w)).pattern
  pattern_by it w rolls = ap (λ (s : ShownPat). s.pattern) (ap (shown_pat env) (sym rolls) ∙ at_pat env w)

  param_shown : (m : Modifiers) (r : Range) (pat : Pat) (s : State)
      → param_step env (param_by m r pat) s ≡ (shown_pat env pat).as_type r s
  param_shown m r pat s =
      ap (λ (k : ShownParam). k.as_type s) (at_param env (record { modifiers = m; pat = pat; span = r }))

  -- with the pattern it is
  as_pattern : (it : Pat) (w : Whole Pat-F) → roll-Pat w ≡ it → (mark : Bool) (ty : Option TsType) (place : Range)
      (s : State) → (in_pat env (beside_pat env w)).as_type place s
      ≡ (Some (fn_param false mark place (in_pat env (beside_pat env w)).pattern ty), s)
      → (shown_pat env it).as_type place s ≡ (Some (fn_param false mark place (pattern env it) ty), s)
  as_pattern it w rolls mark ty place s e =
      as_by it w rolls place s
      ∙ (e ∙ ap (λ (p : TsParamPat). (Some (fn_param false mark place p ty), s)) (sym (pattern_by it w rolls)))

  abbrev AsMarked : (Bool → Option TsPart → Range → Pat) → Type 0
  AsMarked m =
      (mark : Bool) (ty : Option TsPart) (r place : Range) (s : State)
      → (shown_pat env (m mark ty r)).as_type place s
      ≡ (Some (fn_param false mark place (pattern env (m mark ty r)) (type_in ty)), s)

  name_marked : (id : Ident) → AsMarked (λ mark ty r. vPat.Ident (type_texts.marked mark id) ty r)
  name_marked id mark ty r place s =
      as_pattern _ (Pat-F.Pat::Ident (type_texts.marked mark id) ty r)
      (vPat.rolls-Ident (type_texts.marked mark id) ty r)
      mark (type_in ty) place s refl

  array_marked : (elems : List Pat) → AsMarked (λ mark ty r. vPat.Array elems mark ty r)
  array_marked elems mark ty r place s =
      as_pattern _ (Pat-F.Pat::Array elems mark ty r) (vPat.rolls-Array elems mark ty r) mark (type_in ty) place s refl

  object_marked : (props : List ObjectPatProp) → AsMarked (λ mark ty r. vPat.Object props mark ty r)
  object_marked props mark ty r place s =
      as_pattern _ (Pat-F.Pat::Object props mark ty r) (vPat.rolls-Object props mark ty r) mark (type_in ty) place s
      refl

  module _ (x : List ℕ) (ts : List Token) where
    if_there : (b : Bool) {o p : Option (Bool → Option TsPart → Range → Pat)} → IfThere AsMarked o → IfThere AsMarked p
        → IfThere AsMarked (if b then o else p)
    if_there true h g = h
    if_there false h g = g

    marked_node : (label : NodeKind) (from : ℕ) (p : Value) → IfThere AsMarked (marked_of x ts label from p)
    unfolding marked_of typed_parts.marked_name typed_parts.marked_array typed_parts.marked_object
    marked_node label from p =
        if_there (same_label label l.NamePattern)
        (made_there AsMarked (λ id mark ty r. vPat.Ident (type_texts.marked mark id) ty r) (ident_at x ts p 0)
        name_marked)
        (if_there (same_label label l.ArrayPattern)
        (made_there AsMarked (λ elems mark ty r. vPat.Array elems mark ty r)
        (elements vPat.Hole pat_at ts (from + 1) (group p 0)) array_marked)
        (if_there (same_label label l.ObjectPattern)
        (made_there AsMarked (λ props mark ty r. vPat.Object props mark ty r)
        (turns (λ turn. pat_prop_at turn 0) (group p 0)) object_marked) (none AsMarked)))

    no_lean : (lean : Lean) (from : ℕ) (r : Range) (p : Value) → (build x ts (label_of lean) from r p).marked ≡ None
    unfolding build marked_of
    no_lean vLean.Binary from r p = refl
    no_lean vLean.TypedBinary from r p = refl

    absent_there : (o : Option (Bool → Option TsPart → Range → Pat)) → o ≡ None → IfThere AsMarked o
    absent_there o e =
        subst (λ (o : Option (Bool → Option TsPart → Range → Pat)). IfThere AsMarked o) (sym e) (none AsMarked)

    marked_place : (w : What) (i : Item)
        → IfThere AsMarked (marked_in
        (made x ts w i.from i.to (held x ts i.parts.entries.now) (parts_of x ts i.parts.entries.now)))
    unfolding build
    marked_place vWhat.Leaf i = none AsMarked
    marked_place (vWhat.Node label) i = marked_node label i.from (held x ts i.parts.entries.now)
    marked_place (vWhat.Role label) i =
        absent_there _ (in_role x ts (λ m. m.marked) (λ e. refl) (part (held x ts i.parts.entries.now) 0))
    marked_place vWhat.Parts i = absent_there _ (in_held x ts (λ m. m.marked) i.parts.entries.now)
    marked_place (vWhat.Lean lean) i =
        absent_there _ (in_leant x ts (λ m. m.marked) no_lean lean i.from (parts_of x ts i.parts.entries.now))

    marked_there : (i : Item) → IfThere AsMarked (marked_in (valued x ts i))
    marked_there i = marked_place i.what i

    -- ---- a pattern with a mark and a type
    pub marked_written : (old begun patterned marked mid new : Draft) (place from to start end : ℕ) (i : Item)
        (mark ty : Value) → begun.row ≡ old.row ++ opened → place ≡ length old.row
        → IfThere (IsMarked env x ts begun.row patterned.row (span_of ts start end)) (marked_in (valued x ts i))
        → Marks x ts patterned.row marked.row mark → Annotates x ts marked.row mid.row ty
        → new.row ≡ closed (change.Form form.Param) from to place mid.row → state_of new ≡ state_of old
        → IfThere (λ m. IfThere (λ a. (modifiers : Modifiers)
        → Turned x ts fn_param_in (param_step env) old new
        (param_by modifiers (span_of ts from to) (m (is_there mark) a (span_of ts start end))))
        (option_map (λ ty. option_map vPart.TypeAnn ty) (optional type_at ty))) (marked_in (valued x ts i))
    marked_written old begun patterned marked mid new place from to start end i mark ty eo ep h k a c sn =
        go (marked_in (valued x ts i)) h (marked_there i)
      where
        go : (o : Option (Bool → Option TsPart → Range → Pat))
            → IfThere (IsMarked env x ts begun.row patterned.row (span_of ts start end)) o → IfThere AsMarked o
            → IfThere (λ m. IfThere (λ a. (modifiers : Modifiers)
            → Turned x ts fn_param_in (param_step env) old new
            (param_by modifiers (span_of ts from to) (m (is_there mark) a (span_of ts start end))))
            (option_map (λ ty. option_map vPart.TypeAnn ty) (optional type_at ty))) o
        go None h g = record { is = tt }
        go (Some m) h g = record {
          is = given_read x ts ty (λ part e modifiers.
              turned_by x ts (param_step env)
              (param_by modifiers (span_of ts from to) (m (is_there mark) part (span_of ts start end)))
              old new
              (fn_param false (is_there mark) (span_of ts from to)
              (pattern env (m (is_there mark) part (span_of ts start end))) (type_in part))
              (state_of old)
              (param_shown modifiers (span_of ts from to) (m (is_there mark) part (span_of ts start end)) (state_of old)
              ∙ g.is (is_there mark) part (span_of ts start end) (span_of ts from to) (state_of old)) sn
              (record {
                value = formed x ts form.Param from to (packed (h.is.value ∷ k.value ∷ a.value ∷ []));
                writes = form_written x ts form.Param from to place old.row begun.row mid.row new.row
                    (h.is.value ∷ k.value ∷ a.value ∷ []) eo ep
                    (both_written x ts begun.row patterned.row mid.row (h.is.value ∷ []) (k.value ∷ a.value ∷ [])
                    h.is.writes
                    (both_written x ts patterned.row marked.row mid.row (k.value ∷ []) (a.value ∷ []) k.writes
                    a.writes)) c;
                is = param_is x ts from to h.is.value k.value a.value (is_there mark) h.is.written _ (type_in part)
                    h.is.reads k.is (a.is ∙ read_type x ts ty part e) (h.is.is (is_there mark) part);
              }));
        }

    -- ---- a name alone
    pub name_param_written : (old begun patterned one two new : Draft) (place at to : ℕ) → begun.row ≡ old.row ++ opened
        → place ≡ length old.row → IfThere (IsName x ts begun.row patterned.row) (slice_get ts at)
        → Writes x ts patterned.row one.row (nil ∷ []) → Writes x ts one.row two.row (nil ∷ [])
        → new.row ≡ closed (change.Form form.Param) at to place two.row → state_of new ≡ state_of old
        → IfThere (λ t. span_of ts at to ≡ t.range → Turned x ts fn_param_in (param_step env) old new (name_param x t))
        (slice_get ts at)
    unfolding ident_of
    name_param_written old begun patterned one two new place at to eo ep h w v c sn =
        lifted (λ t n es.
        turned_by x ts (param_step env) (name_param x t) old new
        (fn_param false false t.range (vTsPat.Ident (ident_of x t)) None) (state_of old)
        (param_shown plain t.range (vPat.Ident (ident_of x t) None t.range) (state_of old)
        ∙ as_by _ (Pat-F.Pat::Ident (ident_of x t) None t.range) (vPat.rolls-Ident (ident_of x t) None t.range) t.range
        (state_of old)) sn
        (record {
          value = formed x ts form.Param at to (packed (n.value ∷ nil ∷ nil ∷ []));
          writes = form_written x ts form.Param at to place old.row begun.row two.row new.row
              (n.value ∷ nil ∷ nil ∷ []) eo ep
              (both_written x ts begun.row patterned.row two.row (n.value ∷ []) (nil ∷ nil ∷ []) n.writes
              (both_written x ts patterned.row one.row two.row (nil ∷ []) (nil ∷ []) w v)) c;
          is = param_is x ts at to n.value nil nil false (vTsPat.Ident (ident_of x t)) (vTsPat.Ident (ident_of x t))
              None
              n.reads refl refl refl
              ∙ ap (λ (r : Range). Some (fn_param false false r (vTsPat.Ident (ident_of x t)) None)) es;
        })) h

    pub name_there : (old new : Draft) (at to : ℕ) → to ≡ at + 1
        → IfThere (λ t. span_of ts at to ≡ t.range
        → Turned x ts fn_param_in (param_step env) old new (name_param x t))
        (slice_get ts at)
        → IfThere (λ t. Turned x ts fn_param_in (param_step env) old new (name_param x t)) (slice_get ts at)
    name_there old new at to e h = go (slice_get ts at) refl h
      where
        go : (o : Option Token) → slice_get ts at ≡ o
            → IfThere (λ t. span_of ts at to ≡ t.range
            → Turned x ts fn_param_in (param_step env) old new (name_param x t)) o
            → IfThere (λ t. Turned x ts fn_param_in (param_step env) old new (name_param x t)) o
        go None is h = record { is = tt }
        go (Some t) is h =
            record { is = h.is (ap (λ (n : ℕ). span_of ts at n) e ∙ token_span ts at t is) }

    -- ---- all parameters as one
    pub params_made : (old begun mid new : Draft) (place : ℕ) (them : List Param) → begun.row ≡ old.row ++ opened
        → place ≡ length old.row → state_of begun ≡ state_of old
        → InTurn x ts fn_param_in (param_step env) begun mid them
        → new.row ≡ closed (change.Form form.Parameters) 0 0 place mid.row → state_of new ≡ state_of mid
        → AreParams x ts env old new them
    params_made old begun mid new place them eo ep sb t c sn = record {
      state = sn ∙ (t.state ∙ ap (λ (s : State). (in_turn (param_step env) them s).1) sb);
      puts = subst (λ (s : State). Puts x ts fn_params_in old.row new.row (some (in_turn (param_step env) them s).0)) sb
          (record {
            value = formed x ts form.Parameters 0 0 (packed t.puts.values);
            writes = form_written x ts form.Parameters 0 0 place old.row begun.row mid.row new.row t.puts.values eo ep
                t.puts.writes c;
            is = read_each fn_param_in t.puts.values (some (in_turn (param_step env) them (state_of begun)).0)
                t.puts.are;
          });
    }

    pub one_made : (old begun mid new : Draft) (place : ℕ) (o : Option Token) → begun.row ≡ old.row ++ opened
        → place ≡ length old.row → state_of begun ≡ state_of old
        → IfThere (λ t. Turned x ts fn_param_in (param_step env) begun mid (name_param x t)) o
        → new.row ≡ closed (change.Form form.Parameters) 0 0 place mid.row → state_of new ≡ state_of mid
        → IfThere (λ t. AreParams x ts env old new (name_param x t ∷ [])) o
    one_made old begun mid new place o eo ep sb h c sn =
        lifted (λ t p. params_made old begun mid new place (name_param x t ∷ []) eo ep sb
        (turn_one x ts fn_param_in (param_step env) begun mid (name_param x t) p) c sn) h

    both_there : (old begun mid past new : Draft) (place : ℕ) (all : Option (List Param)) (rest : Option (Option Param))
        → begun.row ≡ old.row ++ opened → place ≡ length old.row → state_of begun ≡ state_of old
        → IfThere (InTurn x ts fn_param_in (param_step env) begun mid) all
        → IfThere (λ p. InTurn x ts fn_param_in (param_step env) mid past (option_list p)) rest
        → new.row ≡ closed (change.Form form.Parameters) 0 0 place past.row → state_of new ≡ state_of past
        → IfThere (AreParams x ts env old new)
        (given all (λ all. given rest (λ rest. Some (all ++ option_list rest))))
    both_there old begun mid past new place None rest eo ep sb h g c sn = record { is = tt }
    both_there old begun mid past new place (Some all) None eo ep sb h g c sn = record { is = tt }
    both_there old begun mid past new place (Some all) (Some rest) eo ep sb h g c sn = record {
      is = params_made old begun past new place (all ++ option_list rest) eo ep sb
          (turn_both x ts fn_param_in (param_step env) begun mid past all (option_list rest) h.is g.is) c sn;
    }

    pub plain_made : (old begun mid past new : Draft) (place : ℕ) (all rest : Value)
        → begun.row ≡ old.row ++ opened → place ≡ length old.row → state_of begun ≡ state_of old
        → IfThere (InTurn x ts fn_param_in (param_step env) begun mid) (turns (λ turn. param_at turn 0) all)
        → IfThere (λ p. InTurn x ts fn_param_in (param_step env) mid past (option_list p)) (optional (rest_at ts) rest)
        → new.row ≡ closed (change.Form form.Parameters) 0 0 place past.row → state_of new ≡ state_of past
        → IfThere (AreParams x ts env old new) (params_view.plain ts all rest)
    unfolding params_view.plain
    plain_made old begun mid past new place all rest eo ep sb h g c sn =
        both_there old begun mid past new place _ _ eo ep sb h g c sn

    pub typed_made : (old begun mid past new : Draft) (place : ℕ) (all rest : Value)
        → begun.row ≡ old.row ++ opened → place ≡ length old.row → state_of begun ≡ state_of old
        → IfThere (InTurn x ts fn_param_in (param_step env) begun mid) (turns (λ turn. param_at turn 0) all)
        → IfThere (λ p. InTurn x ts fn_param_in (param_step env) mid past (option_list p))
        (optional (typed_rest_at ts) rest)
        → new.row ≡ closed (change.Form form.Parameters) 0 0 place past.row → state_of new ≡ state_of past
        → IfThere (AreParams x ts env old new) (params_view.typed ts all rest)
    unfolding params_view.typed
    typed_made old begun mid past new place all rest eo ep sb h g c sn =
        both_there old begun mid past new place _ _ eo ep sb h g c sn

    pub bracketed_made : (old new : Draft) (o : Option (List Param)) → IfThere (AreParams x ts env old new) o
        → IfThere (AreParams x ts env old new) (params_view.bracketed o)
    unfolding params_view.bracketed
    bracketed_made old new o h = h

    -- ---- the last one, after `...`
    rest_shown : (m : Modifiers) (place : Range) (arg : Pat) (ty : Option TsPart) (span : Range) (s : State)
        → param_step env (param_by m place (vPat.Rest arg ty span)) s
        ≡ (Some (fn_param true false place (pattern env arg) (type_in ty)), s)
    rest_shown m place arg ty span s =
        param_shown m place (vPat.Rest arg ty span) s
        ∙ as_by _ (Pat-F.Pat::Rest arg ty span) (vPat.rolls-Rest arg ty span) place s

    rest_turned : (old begun past patterned one two new : Draft) (place from to : ℕ) (pat : Pat) (a : Option TsPart)
        (m : Modifiers) (span : Range) (v : Value) → begun.row ≡ old.row ++ opened → place ≡ length old.row
        → Writes x ts begun.row past.row [] → {end : ℕ} → IsPattern env x ts past.row patterned.row end pat
        → Writes x ts patterned.row one.row (nil ∷ []) → Writes x ts one.row two.row (v ∷ [])
        → optional type_at (as_group v) ≡ Some (type_in a)
        → new.row ≡ closed (change.Form form.RestParam) from to place two.row → state_of new ≡ state_of old
        → Turned x ts fn_param_in (param_step env) old new (param_by m (span_of ts from to) (vPat.Rest pat a span))
    rest_turned old begun past patterned one two new place from to pat a m span v eo ep g p w u ty c sn =
        turned_by x ts (param_step env) (param_by m (span_of ts from to) (vPat.Rest pat a span)) old new
        (fn_param true false (span_of ts from to) (pattern env pat) (type_in a)) (state_of old)
        (rest_shown m (span_of ts from to) pat a span (state_of old)) sn
        (record {
          value = formed x ts form.RestParam from to (packed (p.value ∷ nil ∷ v ∷ []));
          writes = form_written x ts form.RestParam from to place old.row begun.row two.row new.row
              (p.value ∷ nil ∷ v ∷ []) eo ep
              (both_written x ts begun.row past.row two.row [] (p.value ∷ nil ∷ v ∷ []) g
              (both_written x ts past.row patterned.row two.row (p.value ∷ []) (nil ∷ v ∷ []) p.writes
              (both_written x ts patterned.row one.row two.row (nil ∷ []) (v ∷ []) w u))) c;
          is = rest_is x ts from to p.value nil v (pattern env pat) (type_in a) p.is ty;
        })

    pub plain_rest_written : (old begun past patterned one two new : Draft) (place from to end : ℕ) (i : Item)
        → (first_of (valued x ts i) ≡ from) × (behind (valued x ts i) ≡ to)
        → begun.row ≡ old.row ++ opened → place ≡ length old.row → Writes x ts begun.row past.row []
        → IfThere (IsPattern env x ts past.row patterned.row end) (pat_in (valued x ts i))
        → Writes x ts patterned.row one.row (nil ∷ []) → Writes x ts one.row two.row (nil ∷ [])
        → new.row ≡ closed (change.Form form.RestParam) (from - 1) to place two.row → state_of new ≡ state_of old
        → IfThere (λ p. Turned x ts fn_param_in (param_step env) old new
        (rest_of (span_of ts (first_of (valued x ts i) - 1) (behind (valued x ts i))) p)) (pat_in (valued x ts i))
    plain_rest_written old begun past patterned one two new place from to end i at eo ep g h w u c sn =
        lifted (λ p k.
        subst (λ (n : ℕ). Turned x ts fn_param_in (param_step env) old new
        (rest_of (span_of ts (n - 1) (behind (valued x ts i))) p))
        (sym at.0)
        (subst (λ (n : ℕ). Turned x ts fn_param_in (param_step env) old new (rest_of (span_of ts (from - 1) n) p))
        (sym at.1)
        (rest_turned old begun past patterned one two new place (from - 1) to p None plain (span_of ts (from - 1) to)
        nil eo ep g k
        w u refl c sn))) h

    pub rest_written : (old begun past patterned one two new : Draft) (place from to end : ℕ) (o : Option Pat)
        (ty : Value)
        → begun.row ≡ old.row ++ opened → place ≡ length old.row → Writes x ts begun.row past.row []
        → IfThere (IsPattern env x ts past.row patterned.row end) o
        → Writes x ts patterned.row one.row (nil ∷ []) → Annotates x ts one.row two.row ty
        → new.row ≡ closed (change.Form form.RestParam) (from - 1) to place two.row → state_of new ≡ state_of old
        → IfThere (λ p. IfThere (λ a. Turned x ts fn_param_in (param_step env) old new
        (typed_rest_of (span_of ts (from - 1) to) p a))
        (option_map (λ ty. option_map vPart.TypeAnn ty) (optional type_at ty))) o
    rest_written old begun past patterned one two new place from to end o ty eo ep g h w u c sn =
        lifted (λ p k. given_read x ts ty (λ a e.
        rest_turned old begun past patterned one two new place (from - 1) to p a plain (span_of ts (from - 1) to)
        u.value
        eo ep g k w u.writes (u.is ∙ read_type x ts ty a e) c sn)) h

    pub rest_placed : (old new : Draft) (i : Item) (from next to : ℕ) (ty : Value)
        → (first_of (valued x ts i) ≡ from) × (behind (valued x ts i) ≡ next) → behind_in ty next ≡ to
        → IfThere (λ p. IfThere (λ a. Turned x ts fn_param_in (param_step env) old new
        (typed_rest_of (span_of ts (from - 1) to) p a))
        (option_map (λ ty. option_map vPart.TypeAnn ty) (optional type_at ty))) (pat_in (valued x ts i))
        → IfThere (λ p. IfThere (λ a. Turned x ts fn_param_in (param_step env) old new
        (typed_rest_of (span_of ts (first_of (valued x ts i) - 1) (behind_in ty (behind (valued x ts i)))) p a))
        (option_map (λ ty. option_map vPart.TypeAnn ty) (optional type_at ty))) (pat_in (valued x ts i))
    rest_placed old new i from next to ty at e h =
        let Q : ℕ → ℕ → Type 0 = λ m n. IfThere (λ p. IfThere (λ a. Turned x ts fn_param_in (param_step env) old new
        (typed_rest_of (span_of ts (m - 1) n) p a))
        (option_map (λ ty. option_map vPart.TypeAnn ty) (optional type_at ty))) (pat_in (valued x ts i)) in
        subst (λ (m : ℕ). Q m (behind_in ty (behind (valued x ts i)))) (sym at.0)
        (subst (λ (n : ℕ). Q from n) (sym (ap (behind_in ty) at.1 ∙ e)) h)

    -- among the parts of the list
    pub rest_none : (old : Draft) (row : Value) → row ≡ nil
        → IfThere (λ p. InTurn x ts fn_param_in (param_step env) old old (option_list p)) (optional (rest_at ts) row)
    rest_none old row e =
        subst (λ (v : Value). IfThere (λ p. InTurn x ts fn_param_in (param_step env) old old (option_list p))
        (optional (rest_at ts) v)) (sym e) (record { is = turn_none x ts fn_param_in (param_step env) old })

    pub rest_some : (old new : Draft) (row v vs : Value) → row ≡ more v vs
        → IfThere (λ p. Turned x ts fn_param_in (param_step env) old new
        (rest_of (span_of ts (first_of v - 1) (behind v)) p)) (pat_in v)
        → IfThere (λ p. InTurn x ts fn_param_in (param_step env) old new (option_list p)) (optional (rest_at ts) row)
    rest_some old new row v vs e h =
        subst (λ (w : Value). IfThere (λ p. InTurn x ts fn_param_in (param_step env) old new (option_list p))
        (optional (rest_at ts) w)) (sym e) (go (pat_in v) h)
      where
        go : (o : Option Pat) → IfThere (λ p. Turned x ts fn_param_in (param_step env) old new
            (rest_of (span_of ts (first_of v - 1) (behind v)) p)) o
            → IfThere (λ p. InTurn x ts fn_param_in (param_step env) old new (option_list p))
            (option_map Some (option_map (rest_of (span_of ts (first_of v - 1) (behind v))) o))
        go None h = record { is = tt }
        go (Some p) h = record { is = turn_one x ts fn_param_in (param_step env) old new _ h.is }

    pub typed_rest_none : (old : Draft) (row : Value) → row ≡ nil
        → IfThere (λ p. InTurn x ts fn_param_in (param_step env) old old (option_list p))
        (optional (typed_rest_at ts) row)
    typed_rest_none old row e =
        subst (λ (v : Value). IfThere (λ p. InTurn x ts fn_param_in (param_step env) old old (option_list p))
        (optional (typed_rest_at ts) v)) (sym e) (record { is = turn_none x ts fn_param_in (param_step env) old })

    pub typed_rest_some : (old new : Draft) (row v vs ty : Value) → row ≡ more v vs → ty ≡ group row 1
        → IfThere (λ p. IfThere (λ a. Turned x ts fn_param_in (param_step env) old new
        (typed_rest_of (span_of ts (first_of v - 1) (behind_in ty (behind v))) p a))
        (option_map (λ ty. option_map vPart.TypeAnn ty) (optional type_at ty))) (pat_in v)
        → IfThere (λ p. InTurn x ts fn_param_in (param_step env) old new (option_list p))
        (optional (typed_rest_at ts) row)
    typed_rest_some old new row v vs ty e et h =
        subst (λ (w : Value). IfThere (λ p. InTurn x ts fn_param_in (param_step env) old new (option_list p))
        (optional (typed_rest_at ts) w)) (sym e)
        (go (pat_in v) (subst
        (λ (u : Value). IfThere (λ p. IfThere (λ a. Turned x ts fn_param_in (param_step env) old new
        (typed_rest_of (span_of ts (first_of v - 1) (behind_in u (behind v))) p a))
        (option_map (λ ty. option_map vPart.TypeAnn ty) (optional type_at u))) (pat_in v))
        (et ∙ ap (λ (w : Value). group w 1) e) h))
      where
        inner : (p : Pat) (q : Option (Option TsPart)) → IfThere (λ a. Turned x ts fn_param_in (param_step env) old new
            (typed_rest_of (span_of ts (first_of v - 1) (behind_in (group (more v vs) 1) (behind v))) p a)) q
            → IfThere (λ p. InTurn x ts fn_param_in (param_step env) old new (option_list p))
            (option_map Some (given q (λ a. Some
            (typed_rest_of (span_of ts (first_of v - 1) (behind_in (group (more v vs) 1) (behind v))) p a))))
        inner p None h = record { is = tt }
        inner p (Some a) h = record { is = turn_one x ts fn_param_in (param_step env) old new _ h.is }

        go : (o : Option Pat) → IfThere (λ p. IfThere (λ a. Turned x ts fn_param_in (param_step env) old new
            (typed_rest_of (span_of ts (first_of v - 1) (behind_in (group (more v vs) 1) (behind v))) p a))
            (option_map (λ ty. option_map vPart.TypeAnn ty) (optional type_at (group (more v vs) 1)))) o
            → IfThere (λ p. InTurn x ts fn_param_in (param_step env) old new (option_list p))
            (option_map Some (given o (λ pat. given
            (option_map (λ ty. option_map vPart.TypeAnn ty) (optional type_at (group (more v vs) 1))) (λ ty. Some
            (typed_rest_of (span_of ts (first_of v - 1) (behind_in (group (more v vs) 1) (behind v))) pat ty)))))
        go None h = record { is = tt }
        go (Some p) h = inner p _ h.is

    -- ---- a pattern alone
    pub simple_written : (old begun past patterned one two new : Draft) (place from to end : ℕ) (o : Option Pat)
        → begun.row ≡ old.row ++ opened → place ≡ length old.row → Writes x ts begun.row past.row []
        → IfThere (IsPattern env x ts past.row patterned.row end) o
        → Writes x ts patterned.row one.row (nil ∷ []) → Writes x ts one.row two.row (nil ∷ [])
        → new.row ≡ closed (change.Form form.Param) from to place two.row → state_of new ≡ state_of old
        → IfThere (λ pat. IsSimple env pat → Turned x ts fn_param_in (param_step env) old new
        (param_of (span_of ts from to) pat)) o
    simple_written old begun past patterned one two new place from to end o eo ep g h w u c sn =
        lifted (λ pat p simple.
        turned_by x ts (param_step env) (param_of (span_of ts from to) pat) old new
        (fn_param false false (span_of ts from to) (pattern env pat) None) (state_of old)
        (param_shown plain (span_of ts from to) pat (state_of old) ∙ simple (span_of ts from to) (state_of old)) sn
        (record {
          value = formed x ts form.Param from to (packed (p.value ∷ nil ∷ nil ∷ []));
          writes = form_written x ts form.Param from to place old.row begun.row two.row new.row
              (p.value ∷ nil ∷ nil ∷ []) eo ep
              (both_written x ts begun.row past.row two.row [] (p.value ∷ nil ∷ nil ∷ []) g
              (both_written x ts past.row patterned.row two.row (p.value ∷ []) (nil ∷ nil ∷ []) p.writes
              (both_written x ts patterned.row one.row two.row (nil ∷ []) (nil ∷ []) w u))) c;
          is = param_is x ts from to p.value nil nil false (pattern env pat) (pattern env pat) None p.is refl refl refl;
        })) h

    abbrev Simple : Draft → Draft → Range → Pat → Type 0
    Simple old new r pat = IsSimple env pat → Turned x ts fn_param_in (param_step env) old new (param_of r pat)

    simple_there : (old new : Draft) (r : Range) (o : Option Pat) → IfThere (Simple old new r) o
        → IfThere (IsSimple env) o
        → IfThere (Turned x ts fn_param_in (param_step env) old new) (option_map (param_of r) o)
    simple_there old new r None h g = record { is = tt }
    simple_there old new r (Some pat) h g = record { is = h.is g.is }

    -- the names of tokens bear no mark
    unmarked : (t : Token) → (ident_of x t).optional ≡ false
    unfolding ident_of
    unmarked t = refl

    pub simple_ident : (old new : Draft) (r : Range) (at : Option Token)
        → IfThere (Simple old new r) (pat_view.ident x at)
        → IfThere (Turned x ts fn_param_in (param_step env) old new) (option_map (param_of r) (pat_view.ident x at))
    unfolding pat_view.ident
    simple_ident old new r at h =
        simple_there old new r _ h (made_there (IsSimple env) _ at (λ t place s.
        as_pattern (vPat.Ident (ident_of x t) None t.range) (Pat-F.Pat::Ident (ident_of x t) None t.range)
        (vPat.rolls-Ident (ident_of x t) None t.range) false None place s
        (ap (λ (b : Bool). (Some (fn_param false b place (vTsPat.Ident (ident_of x t)) None), s)) (unmarked t))))

    pub simple_array : (old new : Draft) (r span : Range) (from : ℕ) (v : Value)
        → IfThere (Simple old new r) (pat_view.array ts span from v)
        → IfThere (Turned x ts fn_param_in (param_step env) old new)
        (option_map (param_of r) (pat_view.array ts span from v))
    unfolding pat_view.array
    simple_array old new r span from v h =
        simple_there old new r _ h
        (made_there (IsSimple env) _ (elements vPat.Hole pat_at ts (from + 1) v) (λ elems place s.
        as_pattern (vPat.Array elems false None span) (Pat-F.Pat::Array elems false None span)
        (vPat.rolls-Array elems false None span) false None place s refl))

    pub simple_object : (old new : Draft) (r span : Range) (v : Value)
        → IfThere (Simple old new r) (pat_view.object span v)
        → IfThere (Turned x ts fn_param_in (param_step env) old new) (option_map (param_of r) (pat_view.object span v))
    unfolding pat_view.object
    simple_object old new r span v h =
        simple_there old new r _ h (made_there (IsSimple env) _ (turns (λ turn. pat_prop_at turn 0) v) (λ props place s.
        as_pattern (vPat.Object props false None span) (Pat-F.Pat::Object props false None span)
        (vPat.rolls-Object props false None span) false None place s refl))

    -- read as such a pattern
    pub simple_by : (old new : Draft) (r : Range) (o q : Option Pat) → o ≡ q → IfThere (Simple old new r) o
        → (IfThere (Simple old new r) q
        → IfThere (Turned x ts fn_param_in (param_step env) old new) (option_map (param_of r) q))
        → IfThere (Turned x ts fn_param_in (param_step env) old new) (option_map (param_of r) o)
    simple_by old new r o q e h k =
        subst (λ (o : Option Pat). IfThere (Turned x ts fn_param_in (param_step env) old new)
        (option_map (param_of r) o)) (sym e)
        (k (subst (λ (o : Option Pat). IfThere (Simple old new r) o) e h))

    -- ---- `this`
    this_shown : (m : Modifiers) (place : Range) (a : Option TsPart) (span : Range) (s : State)
        → param_step env (param_by m place (vPat.This a span)) s
        ≡ (Some (fn_param false false place (vTsPat.This span) (type_in a)), s)
    this_shown m place a span s =
        param_shown m place (vPat.This a span) s
        ∙ as_by _ (Pat-F.Pat::This a span) (vPat.rolls-This a span) place s

    pub this_written : (old begun past inner dropped patterned one two new : Draft) (place spot from to first end : ℕ)
        (ty : Value) → begun.row ≡ old.row ++ opened → place ≡ length old.row → Writes x ts begun.row past.row []
        → inner.row ≡ past.row ++ opened → spot ≡ length past.row → Writes x ts inner.row dropped.row []
        → patterned.row ≡ closed (change.Form form.ThisPattern) first end spot dropped.row
        → Writes x ts patterned.row one.row (nil ∷ []) → Annotates x ts one.row two.row ty
        → new.row ≡ closed (change.Form form.Param) from to place two.row → state_of new ≡ state_of old
        → IfThere (λ a. (modifiers : Modifiers) → Turned x ts fn_param_in (param_step env) old new
        (param_by modifiers (span_of ts from to) (vPat.This a (span_of ts first end))))
        (option_map (λ ty. option_map vPart.TypeAnn ty) (optional type_at ty))
    this_written old begun past inner dropped patterned one two new place spot from to first end ty eo ep g ei es d k w
        u c sn =
        given_read x ts ty (λ a e modifiers.
        turned_by x ts (param_step env) (param_by modifiers (span_of ts from to) (vPat.This a (span_of ts first end)))
        old new
        (fn_param false false (span_of ts from to) (vTsPat.This (span_of ts first end)) (type_in a)) (state_of old)
        (this_shown modifiers (span_of ts from to) a (span_of ts first end) (state_of old)) sn
        (record {
          value = formed x ts form.Param from to
              (packed (formed x ts form.ThisPattern first end nil ∷ nil ∷ u.value ∷ []));
          writes = form_written x ts form.Param from to place old.row begun.row two.row new.row
              (formed x ts form.ThisPattern first end nil ∷ nil ∷ u.value ∷ []) eo ep
              (both_written x ts begun.row past.row two.row [] _ g
              (both_written x ts past.row patterned.row two.row (formed x ts form.ThisPattern first end nil ∷ [])
              (nil ∷ u.value ∷ [])
              (form_written x ts form.ThisPattern first end spot past.row inner.row dropped.row patterned.row [] ei es
              d k)
              (both_written x ts patterned.row one.row two.row (nil ∷ []) (u.value ∷ []) w u.writes))) c;
          is = param_is x ts from to (formed x ts form.ThisPattern first end nil) nil u.value false
              (vTsPat.This (span_of ts first end)) (vTsPat.This (span_of ts first end)) (type_in a) refl refl
              (u.is ∙ read_type x ts ty a e) refl;
        }))

    pub this_placed : (old new : Draft) (from to first next end : ℕ) (i : Item) (ty : Value)
        → (first_of (valued x ts i) ≡ first) × (behind (valued x ts i) ≡ next) → behind_in ty next ≡ end
        → IfThere (λ a. (modifiers : Modifiers) → Turned x ts fn_param_in (param_step env) old new
        (param_by modifiers (span_of ts from to) (vPat.This a (span_of ts first end))))
        (option_map (λ ty. option_map vPart.TypeAnn ty) (optional type_at ty))
        → IfThere (λ a. (modifiers : Modifiers) → Turned x ts fn_param_in (param_step env) old new
        (param_by modifiers (span_of ts from to)
        (vPat.This a (span_of ts (first_of (valued x ts i)) (behind_in ty (behind (valued x ts i)))))))
        (option_map (λ ty. option_map vPart.TypeAnn ty) (optional type_at ty))
    this_placed old new from to first next end i ty at e h =
        let Q : ℕ → ℕ → Type 0 =
        λ m n. IfThere (λ a. (modifiers : Modifiers) → Turned x ts fn_param_in (param_step env) old new
        (param_by modifiers (span_of ts from to) (vPat.This a (span_of ts m n))))
        (option_map (λ ty. option_map vPart.TypeAnn ty) (optional type_at ty)) in
        subst (λ (m : ℕ). Q m (behind_in ty (behind (valued x ts i)))) (sym at.0)
        (subst (λ (n : ℕ). Q first n) (sym (ap (behind_in ty) at.1 ∙ e)) h)

    pub this_plain : (old new : Draft) (r : Range) (word ty value : Value) → value ≡ nil
        → IfThere (λ a. (modifiers : Modifiers) → Turned x ts fn_param_in (param_step env) old new
        (param_by modifiers r (vPat.This a (span_of ts (first_of word) (behind_in ty (behind word))))))
        (option_map (λ ty. option_map vPart.TypeAnn ty) (optional type_at ty))
        → IfThere (Turned x ts fn_param_in (param_step env) old new) (param_view.this ts r word ty value)
    unfolding param_view.this
    this_plain old new r word ty value e h =
        given_any (Turned x ts fn_param_in (param_step env) old new) (token_of ts word) _ (λ t.
        subst (λ (v : Value). IfThere (Turned x ts fn_param_in (param_step env) old new)
        (given (option_map (λ ty. option_map vPart.TypeAnn ty) (optional type_at ty)) (λ annotation.
        given (optional expr_at v) (λ value. Some (param_by plain r (with_default r
        (vPat.This annotation (span_of ts (first_of word) (behind_in ty (behind word)))) value)))))) (sym e)
        (go _ h))
      where
        go : (o : Option (Option TsPart)) → IfThere (λ a. (modifiers : Modifiers)
            → Turned x ts fn_param_in (param_step env) old new
            (param_by modifiers r (vPat.This a (span_of ts (first_of word) (behind_in ty (behind word)))))) o
            → IfThere (Turned x ts fn_param_in (param_step env) old new)
            (given o (λ annotation. Some (param_by plain r (vPat.This annotation
            (span_of ts (first_of word) (behind_in ty (behind word)))))))
        go None h = record { is = tt }
        go (Some a) h = record { is = h.is plain }

    -- ---- defaults
    default_shown : (m : Modifiers) (r span : Range) (left : Pat) (e : Expr) (s : State)
        → param_step env (param_by m r (vPat.Assign left e span)) s ≡ default_step env (out-Pat left) e s
    default_shown m r span left e s =
        param_shown m r (vPat.Assign left e span) s
        ∙ as_by _ (Pat-F.Pat::Assign left e span) (vPat.rolls-Assign left e span) r s

    default_turned : (old new : Draft) (m : Modifiers) (r span : Range) (left : Pat) (e : Expr)
        → Turned x ts fn_param_in (default_step env (out-Pat left)) old new e
        → Turned x ts fn_param_in (param_step env) old new (param_by m r (vPat.Assign left e span))
    default_turned old new m r span left e t =
        let is : param_step env (param_by m r (vPat.Assign left e span)) (state_of old)
        ≡ default_step env (out-Pat left) e (state_of old) = default_shown m r span left e (state_of old) in
        record {
          state = t.state ∙ ap (λ (p : Option TsFnParam × State). p.1) (sym is);
          puts = subst (λ (o : Option TsFnParam). PutsAll x ts fn_param_in old.row new.row (some (o ∷ [])))
              (ap (λ (p : Option TsFnParam × State). p.0) (sym is)) t.puts;
        }

    abbrev Default : Draft → Draft → Whole Pat-F → Option Expr → Type 0
    Default old new left o = IfThere (Turned x ts fn_param_in (default_step env left) old new) o

    pub default_there : (old new : Draft) (r : Range) (left : Option Pat) (right : Option Expr)
        → IfThere (λ l. Default old new (out-Pat l) right) left
        → IfThere (Turned x ts fn_param_in (param_step env) old new) (param_view.default r left right)
    unfolding param_view.default
    default_there old new r None right h = record { is = tt }
    default_there old new r (Some l) None h = record { is = tt }
    default_there old new r (Some l) (Some e) h = record { is = default_turned old new plain r r l e h.is.is }

    pub default_alone : (old new : Draft) (r span : Range) (left : Option Pat) (right : Option Expr)
        → IfThere (λ l. Default old new (out-Pat l) right) left
        → IfThere (Turned x ts fn_param_in (param_step env) old new)
        (option_map (param_of r) (pat_view.default span left right))
    unfolding pat_view.default
    default_alone old new r span None right h = record { is = tt }
    default_alone old new r span (Some l) None h = record { is = tt }
    default_alone old new r span (Some l) (Some e) h = record { is = default_turned old new plain r span l e h.is.is }

    out_is : (it : Pat) (w : Whole Pat-F) → roll-Pat w ≡ it → out-Pat it ≡ w
    out_is it w rolls = ap out-Pat (sym rolls) ∙ out-roll-Pat w

    no_name : (it : Pat) (w : Whole Pat-F) → roll-Pat w ≡ it → rules.is_name env w ≡ false
        → rules.is_name env (out-Pat it) ≡ false
    no_name it w rolls e = ap (rules.is_name env) (out_is it w rolls) ∙ e

    abbrev pub Unnamed : Draft → Draft → Option Expr → Type 0
    Unnamed old new right = (left : Whole Pat-F) → rules.is_name env left ≡ false → Default old new left right

    abbrev pub Named : Draft → Draft → Option Token → Option Expr → Type 0
    Named old new o right =
        (id : Ident) (ty : Option TsPart) (span : Range) → option_map (ident_of x) o ≡ Some (rules.marked false id)
        → Default old new (Pat-F.Pat::Ident id ty span) right

    by_out : (old new : Draft) (it : Pat) (w : Whole Pat-F) (right : Option Expr) → roll-Pat w ≡ it
        → Default old new w right → Default old new (out-Pat it) right
    by_out old new it w right rolls h =
        subst (λ (w : Whole Pat-F). Default old new w right) (sym (out_is it w rolls)) h

    -- patterns
    pub named_pat : (old new : Draft) (o : Option Token) (right : Option Expr) → Named old new o right
        → IfThere (λ l. Default old new (out-Pat l) right) (pat_view.ident x o)
    unfolding pat_view.ident
    named_pat old new None right h = record { is = tt }
    named_pat old new (Some t) right h = record {
      is = by_out old new _ (Pat-F.Pat::Ident (ident_of x t) None t.range) right
          (vPat.rolls-Ident (ident_of x t) None t.range)
          (h (ident_of x t) None t.range (ap Some (sym (own_name x t))));
    }

    pub array_pat : (old new : Draft) (r : Range) (from : ℕ) (v : Value) (right : Option Expr) → Unnamed old new right
        → IfThere (λ l. Default old new (out-Pat l) right) (pat_view.array ts r from v)
    unfolding pat_view.array
    array_pat old new r from v right h =
        made_there (λ l. Default old new (out-Pat l) right) _ (elements vPat.Hole pat_at ts (from + 1) v) (λ elems.
        h _ (no_name _ (Pat-F.Pat::Array elems false None r) (vPat.rolls-Array elems false None r) refl))

    pub object_pat : (old new : Draft) (r : Range) (v : Value) (right : Option Expr) → Unnamed old new right
        → IfThere (λ l. Default old new (out-Pat l) right) (pat_view.object r v)
    unfolding pat_view.object
    object_pat old new r v right h =
        made_there (λ l. Default old new (out-Pat l) right) _ (turns (λ turn. pat_prop_at turn 0) v) (λ props.
        h _ (no_name _ (Pat-F.Pat::Object props false None r) (vPat.rolls-Object props false None r) refl))

    pub rest_pat : (old new : Draft) (r : Range) (o : Option Pat) (right : Option Expr) → Unnamed old new right
        → IfThere (λ l. Default old new (out-Pat l) right) (pat_view.rest r o)
    unfolding pat_view.rest
    rest_pat old new r o right h =
        made_there (λ l. Default old new (out-Pat l) right) _ o (λ arg.
        h _ (no_name _ (Pat-F.Pat::Rest arg None r) (vPat.rolls-Rest arg None r) refl))

    pub default_pat : (old new : Draft) (r : Range) (o : Option Pat) (e right : Option Expr) → Unnamed old new right
        → IfThere (λ l. Default old new (out-Pat l) right) (pat_view.default r o e)
    unfolding pat_view.default
    default_pat old new r o e right h =
        given_any (λ l. Default old new (out-Pat l) right) o _ (λ left.
        given_any (λ l. Default old new (out-Pat l) right) e _ (λ value. record {
          is = h _ (no_name _ (Pat-F.Pat::Assign left value r) (vPat.rolls-Assign left value r) refl);
        }))

    pub target_pat : (old new : Draft) (o right : Option Expr) → Unnamed old new right
        → IfThere (λ l. Default old new (out-Pat l) right) (pat_view.target o)
    unfolding pat_view.target
    target_pat old new o right h =
        made_there (λ l. Default old new (out-Pat l) right) _ o (λ it.
        h _ (no_name _ (Pat-F.Pat::Expr it) (vPat.rolls-Expr it) refl))

    -- patterns that may have a type
    abbrev MarkedDefault : Draft → Draft → Option Expr → (Bool → Option TsPart → Range → Pat) → Type 0
    MarkedDefault old new right m =
        (mark : Bool) (ty : Option TsPart) (r : Range) → Default old new (out-Pat (m mark ty r)) right

    pub named_marked : (old new : Draft) (o : Option Token) (right : Option Expr) → Named old new o right
        → IfThere (MarkedDefault old new right) (marked_view.ident x o)
    unfolding marked_view.ident
    named_marked old new None right h = record { is = tt }
    named_marked old new (Some t) right h = record {
      is = λ mark ty r.
          by_out old new _ (Pat-F.Pat::Ident (type_texts.marked mark (ident_of x t)) ty r) right
          (vPat.rolls-Ident (type_texts.marked mark (ident_of x t)) ty r)
          (h (type_texts.marked mark (ident_of x t)) ty r (ap Some (sym (marked_own x mark t))));
    }

    pub array_default : (old new : Draft) (from : ℕ) (v : Value) (right : Option Expr) → Unnamed old new right
        → IfThere (MarkedDefault old new right) (marked_view.array ts from v)
    unfolding marked_view.array
    array_default old new from v right h =
        made_there (MarkedDefault old new right) _ (elements vPat.Hole pat_at ts (from + 1) v) (λ elems mark ty r.
        h _ (no_name _ (Pat-F.Pat::Array elems mark ty r) (vPat.rolls-Array elems mark ty r) refl))

    pub object_default : (old new : Draft) (v : Value) (right : Option Expr) → Unnamed old new right
        → IfThere (MarkedDefault old new right) (marked_view.object v)
    unfolding marked_view.object
    object_default old new v right h =
        made_there (MarkedDefault old new right) _ (turns (λ turn. pat_prop_at turn 0) v) (λ props mark ty r.
        h _ (no_name _ (Pat-F.Pat::Object props mark ty r) (vPat.rolls-Object props mark ty r) refl))

    pub this_default : (old new : Draft) (r : Range) (word ty value v vs : Value) → value ≡ more v vs
        → Unnamed old new (expr_in v)
        → IfThere (Turned x ts fn_param_in (param_step env) old new) (param_view.this ts r word ty value)
    unfolding param_view.this
    this_default old new r word ty value v vs e h =
        given_any (Turned x ts fn_param_in (param_step env) old new) (token_of ts word) _ (λ t.
        given_any (Turned x ts fn_param_in (param_step env) old new)
        (option_map (λ ty. option_map vPart.TypeAnn ty) (optional type_at ty)) _ (λ a.
        subst (λ (w : Value). IfThere (Turned x ts fn_param_in (param_step env) old new)
        (given (optional expr_at w) (λ value.
        Some (param_by plain r (with_default r
        (vPat.This a (span_of ts (first_of word) (behind_in ty (behind word)))) value))))) (sym e)
        (go a (expr_in v) (h _ (no_name _ (Pat-F.Pat::This a (span_of ts (first_of word) (behind_in ty (behind word))))
        (vPat.rolls-This a (span_of ts (first_of word) (behind_in ty (behind word)))) refl)))))
      where
        go : (a : Option TsPart) (o : Option Expr)
            → Default old new (out-Pat (vPat.This a (span_of ts (first_of word) (behind_in ty (behind word))))) o
            → IfThere (Turned x ts fn_param_in (param_step env) old new) (given (option_map Some o) (λ value.
            Some (param_by plain r (with_default r
            (vPat.This a (span_of ts (first_of word) (behind_in ty (behind word)))) value))))
        go a None h = record { is = tt }
        go a (Some it) h = record { is = default_turned old new plain r r _ it h.is }

    -- a pattern with all that may stand behind it
    abbrev Tailed : Draft → Draft → Range → Pat → Type 0
    Tailed old new r pat = (modifiers : Modifiers)
        → Turned x ts fn_param_in (param_step env) old new (param_by modifiers r pat)

    pub tailed_default : (old new : Draft) (r typed span : Range) (name : Option (Bool → Option TsPart → Range → Pat))
        (mark ty value v vs : Value) → value ≡ more v vs → IfThere (MarkedDefault old new (expr_in v)) name
        → IfThere (Tailed old new r) (param_view.tailed typed span name mark ty value)
    tailed_default old new r typed span name mark ty value v vs e h =
        given_any (Tailed old new r) (option_map (λ ty. option_map vPart.TypeAnn ty) (optional type_at ty)) _ (λ a.
        subst (λ (w : Value). IfThere (Tailed old new r) (given (marked_by name (is_there mark) a typed) (λ pat.
        given (optional expr_at w) (λ value. Some (with_default span pat value))))) (sym e) (go a name h))
      where
        inner : (pat : Pat) (o : Option Expr) → Default old new (out-Pat pat) o
            → IfThere (Tailed old new r) (given (option_map Some o) (λ value. Some (with_default span pat value)))
        inner pat None h = record { is = tt }
        inner pat (Some it) h = record { is = λ modifiers. default_turned old new modifiers r span pat it h.is }

        go : (a : Option TsPart) (m : Option (Bool → Option TsPart → Range → Pat))
            → IfThere (MarkedDefault old new (expr_in v)) m
            → IfThere (Tailed old new r) (given (marked_by m (is_there mark) a typed) (λ pat.
            given (option_map Some (expr_in v)) (λ value. Some (with_default span pat value))))
        go a None h = record { is = tt }
        go a (Some m) h = inner (m (is_there mark) a typed) (expr_in v) (h.is (is_there mark) a typed)

    pub tailed_plain : (old new : Draft) (r typed span : Range) (name : Option (Bool → Option TsPart → Range → Pat))
        (mark ty value : Value) → value ≡ nil
        → IfThere (λ m. IfThere (λ a. (modifiers : Modifiers) → Turned x ts fn_param_in (param_step env) old new
        (param_by modifiers r (m (is_there mark) a typed)))
        (option_map (λ ty. option_map vPart.TypeAnn ty) (optional type_at ty))) name
        → IfThere (Tailed old new r) (param_view.tailed typed span name mark ty value)
    tailed_plain old new r typed span name mark ty value e h =
        subst (λ (w : Value). IfThere (Tailed old new r)
        (given (option_map (λ ty. option_map vPart.TypeAnn ty) (optional type_at ty)) (λ a.
        given (marked_by name (is_there mark) a typed) (λ pat.
        given (optional expr_at w) (λ value. Some (with_default span pat value)))))) (sym e) (go name _ h)
      where
        go : (m : Option (Bool → Option TsPart → Range → Pat)) (q : Option (Option TsPart))
            → IfThere (λ m. IfThere (λ a. (modifiers : Modifiers) → Turned x ts fn_param_in (param_step env) old new
            (param_by modifiers r (m (is_there mark) a typed))) q) m
            → IfThere (Tailed old new r) (given q (λ a. given (marked_by m (is_there mark) a typed) (λ pat. Some pat)))
        go None None h = record { is = tt }
        go None (Some a) h = record { is = tt }
        go (Some m) None h = record { is = tt }
        go (Some m) (Some a) h = record { is = h.is.is }

    pub marked_there_is : (old new : Draft) (r typed span : Range) (name : Option (Bool → Option TsPart → Range → Pat))
        (mark ty value : Value) → IfThere (Tailed old new r) (param_view.tailed typed span name mark ty value)
        → IfThere (Turned x ts fn_param_in (param_step env) old new) (param_view.marked r typed span name mark ty value)
    unfolding param_view.marked
    marked_there_is old new r typed span name mark ty value h =
        mapped (Tailed old new r) (Turned x ts fn_param_in (param_step env) old new) (param_by plain r) _
        (λ pat t. t plain) h

    pub property_there : (old new : Draft) (r typed span : Range) (modifiers : Value)
        (name : Option (Bool → Option TsPart → Range → Pat)) (mark ty value : Value)
        → IfThere (Tailed old new r) (param_view.tailed typed span name mark ty value)
        → IfThere (Turned x ts fn_param_in (param_step env) old new)
        (param_view.property ts r typed span modifiers name mark ty value)
    unfolding param_view.property
    property_there old new r typed span modifiers name mark ty value h =
        given_any (Turned x ts fn_param_in (param_step env) old new) (modifiers_in ts plain modifiers) _ (λ m.
        mapped (Tailed old new r) (Turned x ts fn_param_in (param_step env) old new) (param_by m r) _ (λ pat t. t m) h)

    -- where the pattern with its mark and its type stands
    pub marked_placed : (old new : Draft) (r : Range) (i : Item) (from next behind_mark end : ℕ) (mark ty : Value)
        → (first_of (valued x ts i) ≡ from) × (behind (valued x ts i) ≡ next) → behind_in mark next ≡ behind_mark
        → behind_in ty behind_mark ≡ end
        → IfThere (λ m. IfThere (λ a. (modifiers : Modifiers) → Turned x ts fn_param_in (param_step env) old new
        (param_by modifiers r (m (is_there mark) a (span_of ts from end))))
        (option_map (λ ty. option_map vPart.TypeAnn ty) (optional type_at ty))) (marked_in (valued x ts i))
        → IfThere (λ m. IfThere (λ a. (modifiers : Modifiers) → Turned x ts fn_param_in (param_step env) old new
        (param_by modifiers r (m (is_there mark) a (span_of ts (first_of (valued x ts i))
        (behind_in ty (behind_in mark (behind (valued x ts i))))))))
        (option_map (λ ty. option_map vPart.TypeAnn ty) (optional type_at ty))) (marked_in (valued x ts i))
    marked_placed old new r i from next behind_mark end mark ty at em et h =
        let Q : ℕ → ℕ → Type 0 = λ k n. IfThere (λ m. IfThere (λ a. (modifiers : Modifiers)
        → Turned x ts fn_param_in (param_step env) old new
        (param_by modifiers r (m (is_there mark) a (span_of ts k n))))
        (option_map (λ ty. option_map vPart.TypeAnn ty) (optional type_at ty))) (marked_in (valued x ts i)) in
        subst (λ (k : ℕ). Q k (behind_in ty (behind_in mark (behind (valued x ts i))))) (sym at.0)
        (subst (λ (n : ℕ). Q from n)
        (sym (ap (λ (n : ℕ). behind_in ty (behind_in mark n)) at.1 ∙ (ap (behind_in ty) em ∙ et))) h)

    -- ---- the type of a default
    pub default_typed : (old marked grouped begun mid closed_ new : Draft) (spot place : ℕ) (wrote : Bool)
        (o : Option Expr)
        → Writes x ts old.row marked.row (nil ∷ []) → grouped.row ≡ marked.row ++ opened → spot ≡ length marked.row
        → begun.row ≡ grouped.row ++ opened → place ≡ length grouped.row → wrote ≡ true → state_of begun ≡ state_of old
        → IfThere (Infers x ts env (record { literal = false; readonly = false; frozen = false }) begun mid wrote) o
        → closed_.row ≡ closed (change.Form form.Annotation) 0 0 place mid.row
        → new.row ≡ closed (change.Old vWhat.Parts) 0 0 spot closed_.row → state_of new ≡ state_of mid
        → IfThere (DefaultTyped env x ts old new true) o
    default_typed old marked grouped begun mid closed_ new spot place wrote o w eg es eb ep is sb h c d sn =
        lifted (λ e a.
        subst (λ (s : State). Typed x ts old new true ((shown_expr env e).rule false false s)) sb
        (go e ((shown_expr env e).rule false false (state_of begun)) a)) h
      where
        go : (e : Expr) (t : Option TsType × State) → Answers x ts begun mid wrote t → Typed x ts old new true t
        go e (None, s) a = absurd (true≢false (sym is ∙ a.0))
        go e (Some ty, s) a = (
          refl,
          sn ∙ a.1,
          record {
            mark = nil;
            annotation = packed (formed x ts form.Annotation 0 0 (packed (a.2.value ∷ [])) ∷ []);
            writes = both_written x ts old.row marked.row new.row (nil ∷ []) _ w
                (group_written x ts 0 0 spot marked.row grouped.row closed_.row new.row _ eg es
                (form_written x ts form.Annotation 0 0 place grouped.row begun.row mid.row closed_.row (a.2.value ∷ [])
                eb ep
                a.2.writes c) d);
            unmarked = refl;
            is = ap (option_map Some) a.2.is;
          },
        )

    pub default_untyped : (old marked grouped begun mid : Draft) (wrote : Bool) (o : Option Expr)
        → Writes x ts old.row marked.row (nil ∷ []) → grouped.row ≡ marked.row ++ opened
        → begun.row ≡ grouped.row ++ opened → wrote ≡ false → state_of begun ≡ state_of old
        → IfThere (Infers x ts env (record { literal = false; readonly = false; frozen = false }) begun mid wrote) o
        → IfThere (DefaultTyped env x ts old mid false) o
    default_untyped old marked grouped begun mid wrote o w eg eb is sb h =
        lifted (λ e a.
        subst (λ (s : State). Typed x ts old mid false ((shown_expr env e).rule false false s)) sb
        (go e ((shown_expr env e).rule false false (state_of begun)) a)) h
      where
        go : (e : Expr) (t : Option TsType × State) → Answers x ts begun mid wrote t → Typed x ts old mid false t
        go e (Some ty, s) a = absurd (true≢false (sym a.0 ∙ is))
        go e (None, s) a = (
          refl,
          a.1,
          record {
            values = nil ∷ [];
            writes = both_written x ts old.row marked.row mid.row (nil ∷ []) [] w
                (both_written x ts marked.row grouped.row mid.row [] []
                (gone_written x ts 0 0 marked.row grouped.row eg)
                (both_written x ts grouped.row begun.row mid.row [] [] (gone_written x ts 0 0 grouped.row begun.row eb)
                a.2));
          },
        )

    -- ---- a name with the type of its default
    default_named : (ty : Option TsType) (s : State) (id : Ident) (t : Option TsPart) (span : Range)
        → rules.defaulted env (Pat-F.Pat::Ident id t span) (ty, s)
        ≡ (option_map (λ ty. fn_param false false nowhere (vTsPat.Ident (rules.marked false id)) (Some ty)) ty, s)
    default_named (Some ty) s id t span = refl
    default_named None s id t span = refl

    pub named_written : (old begun patterned mid new : Draft) (place at : ℕ) (wrote : Bool) (o : Option Expr)
        → begun.row ≡ old.row ++ opened → place ≡ length old.row
        → IfThere (IsName x ts begun.row patterned.row) (slice_get ts at) → state_of patterned ≡ state_of old
        → wrote ≡ true → IfThere (DefaultTyped env x ts patterned mid wrote) o
        → new.row ≡ closed (change.Form form.Param) 0 0 place mid.row → state_of new ≡ state_of mid
        → Named old new (slice_get ts at) o
    named_written old begun patterned mid new place at wrote o eo ep n sp is h c sn id t span same =
        go (slice_get ts at) n same
      where
        fin : (tok : Token) → IsName x ts begun.row patterned.row tok → ident_of x tok ≡ rules.marked false id
            → (e : Expr)
            → (d : Option TsType × State) → (shown_expr env e).rule false false (state_of old) ≡ d
            → Typed x ts patterned mid wrote d
            → Turned x ts fn_param_in (default_step env (Pat-F.Pat::Ident id t span)) old new e
        fin tok k en e (None, s) ed a = absurd (true≢false (sym is ∙ a.0))
        fin tok k en e (Some ty, s) ed a =
            turned_by x ts (default_step env (Pat-F.Pat::Ident id t span)) e old new
            (fn_param false false nowhere (vTsPat.Ident (rules.marked false id)) (Some ty)) s
            (ap (rules.defaulted env (Pat-F.Pat::Ident id t span)) ed ∙ default_named (Some ty) s id t span) (sn ∙ a.1)
            (record {
              value = formed x ts form.Param 0 0 (packed (k.value ∷ a.2.mark ∷ a.2.annotation ∷ []));
              writes = form_written x ts form.Param 0 0 place old.row begun.row mid.row new.row
                  (k.value ∷ a.2.mark ∷ a.2.annotation ∷ []) eo ep
                  (both_written x ts begun.row patterned.row mid.row (k.value ∷ []) _ k.writes a.2.writes) c;
              is = param_is x ts 0 0 k.value a.2.mark a.2.annotation false (vTsPat.Ident (ident_of x tok))
                  (vTsPat.Ident (ident_of x tok)) (Some ty) k.reads a.2.unmarked a.2.is refl
                  ∙ (ap (λ (r : Range). Some (fn_param false false r (vTsPat.Ident (ident_of x tok)) (Some ty)))
                  (nowhere_span ts)
                  ∙ ap (λ (id : Ident). Some (fn_param false false nowhere (vTsPat.Ident id) (Some ty))) en);
            })

        some_is : (a b : Ident) → Some a ≡ Some b → a ≡ b
        some_is a b e = ap (λ (o : Option Ident). ident_or a o) e

        go : (q : Option Token) → IfThere (IsName x ts begun.row patterned.row) q
            → option_map (ident_of x) q ≡ Some (rules.marked false id)
            → IfThere (Turned x ts fn_param_in (default_step env (Pat-F.Pat::Ident id t span)) old new) o
        go None n e = let bad : ⊥ = cc in absurd bad
        go (Some tok) n e =
            lifted (λ it a. fin tok n.is (some_is (ident_of x tok) (rules.marked false id) e) it
            ((shown_expr env it).rule false false (state_of old)) refl
            (subst (λ (s : State). Typed x ts patterned mid wrote ((shown_expr env it).rule false false s)) sp a)) h

    -- without a type there is no parameter
    untyped_default : (left : Whole Pat-F) (s : State) → rules.defaulted env left (None, s) ≡ (None, s)
    untyped_default left s = refl

    default_gone : (old begun mid new : Draft) (place : ℕ) (e : Expr) (left : Whole Pat-F) (vs : List Value)
        → begun.row ≡ old.row ++ opened → place ≡ length old.row → Writes x ts begun.row mid.row vs
        → new.row ≡ take place mid.row → (s : State) → (shown_expr env e).rule false false (state_of old) ≡ (None, s)
        → state_of new ≡ s → Turned x ts fn_param_in (default_step env left) old new e
    default_gone old begun mid new place e left vs eo ep w t s ed sn =
        turned_none x ts (default_step env left) e old new s
        (ap (rules.defaulted env left) ed ∙ untyped_default left s) sn
        (t ∙ taken_open x ts place old.row begun.row mid.row vs eo ep w)

    pub named_gone : (old begun patterned mid new : Draft) (place at : ℕ) (wrote : Bool) (o : Option Expr)
        → begun.row ≡ old.row ++ opened → place ≡ length old.row
        → IfThere (IsName x ts begun.row patterned.row) (slice_get ts at) → state_of patterned ≡ state_of old
        → wrote ≡ false → IfThere (DefaultTyped env x ts patterned mid wrote) o
        → new.row ≡ take place mid.row → state_of new ≡ state_of mid → Named old new (slice_get ts at) o
    named_gone old begun patterned mid new place at wrote o eo ep n sp is h t sn id ty span same =
        go (slice_get ts at) n same
      where
        fin : (tok : Token) → IsName x ts begun.row patterned.row tok → (e : Expr) → (d : Option TsType × State)
            → (shown_expr env e).rule false false (state_of old) ≡ d → Typed x ts patterned mid wrote d
            → Turned x ts fn_param_in (default_step env (Pat-F.Pat::Ident id ty span)) old new e
        fin tok k e (Some it, s) ed a = absurd (true≢false (sym a.0 ∙ is))
        fin tok k e (None, s) ed a =
            default_gone old begun mid new place e (Pat-F.Pat::Ident id ty span) (k.value ∷ a.2.values) eo ep
            (both_written x ts begun.row patterned.row mid.row (k.value ∷ []) a.2.values k.writes a.2.writes) t s ed
            (sn ∙ a.1)

        go : (q : Option Token) → IfThere (IsName x ts begun.row patterned.row) q
            → option_map (ident_of x) q ≡ Some (rules.marked false id)
            → IfThere (Turned x ts fn_param_in (default_step env (Pat-F.Pat::Ident id ty span)) old new) o
        go None n e = let bad : ⊥ = cc in absurd bad
        go (Some tok) n e =
            lifted (λ it a. fin tok n.is it ((shown_expr env it).rule false false (state_of old)) refl
            (subst (λ (s : State). Typed x ts patterned mid wrote ((shown_expr env it).rule false false s)) sp a)) h

    -- ---- a made name with the type of a default
    made_default : (left : Whole Pat-F) → rules.is_name env left ≡ false → (ty : TsType) (s : State)
        → rules.defaulted env left (Some ty, s)
        ≡ (Some (fn_param false false nowhere (vTsPat.Ident (made_name (env.name (s.made + 1)))) (Some ty)), drawn s)
    made_default (Pat-F.Pat::Ident id t span) e ty s = absurd (true≢false e)
    made_default (Pat-F.Pat::This t span) e ty s = refl
    made_default (Pat-F.Pat::Hole span) e ty s = refl
    made_default (Pat-F.Pat::Array elems mark t span) e ty s = refl
    made_default (Pat-F.Pat::Object props mark t span) e ty s = refl
    made_default (Pat-F.Pat::Rest arg t span) e ty s = refl
    made_default (Pat-F.Pat::Assign left right span) e ty s = refl
    made_default (Pat-F.Pat::Expr it) e ty s = refl

    pub made_written : (old begun inner mid numbered renamed new : Draft) (place spot number : ℕ) (wrote : Bool)
        (o : Option Expr) → begun.row ≡ old.row ++ opened → place ≡ length old.row → inner.row ≡ begun.row ++ opened
        → spot ≡ length begun.row → state_of inner ≡ state_of old → wrote ≡ true
        → IfThere (DefaultTyped env x ts inner mid wrote) o → numbered.row ≡ mid.row
        → state_of numbered ≡ drawn (state_of mid) → number ≡ mid.made + 1
        → renamed.row ≡ named number spot numbered.row → new.row ≡ closed (change.Form form.Param) 0 0 place renamed.row
        → state_of new ≡ state_of numbered → ((n : ℕ) → env.name n ≡ made_symbol n) → Unnamed old new o
    made_written old begun inner mid numbered renamed new place spot number wrote o eo ep ei es si is h er ed en rn c
        sn names
        left no_ =
        lifted (λ it a. fin it ((shown_expr env it).rule false false (state_of old)) refl
        (subst (λ (s : State). Typed x ts inner mid wrote ((shown_expr env it).rule false false s)) si a)) h
      where
        fin : (e : Expr) → (d : Option TsType × State) → (shown_expr env e).rule false false (state_of old) ≡ d
            → Typed x ts inner mid wrote d → Turned x ts fn_param_in (default_step env left) old new e
        fin e (None, s) eq a = absurd (true≢false (sym is ∙ a.0))
        fin e (Some ty, s) eq a =
            let count : number ≡ s.made + 1 = en ∙ ap (λ (s : State). s.made + 1) a.1 in
            turned_by x ts (default_step env left) e old new
            (fn_param false false nowhere (vTsPat.Ident (made_name (env.name (s.made + 1)))) (Some ty)) (drawn s)
            (ap (rules.defaulted env left) eq ∙ made_default left no_ ty s) (sn ∙ (ed ∙ ap drawn a.1))
            (record {
              value = formed x ts form.Param 0 0
                  (packed (formed x ts form.MadeName number 0 nil ∷ a.2.mark ∷ a.2.annotation ∷ []));
              writes = form_written x ts form.Param 0 0 place old.row begun.row renamed.row new.row
                  (formed x ts form.MadeName number 0 nil ∷ a.2.mark ∷ a.2.annotation ∷ []) eo ep
                  (name_written x ts number spot begun.row inner.row mid.row renamed.row _ ei es a.2.writes
                  (rn ∙ ap (named number spot) er)) c;
              is = param_is x ts 0 0 (formed x ts form.MadeName number 0 nil) a.2.mark a.2.annotation false
                  (vTsPat.Ident (made_name (made_symbol number))) (vTsPat.Ident (made_name (made_symbol number)))
                  (Some ty)
                  refl a.2.unmarked a.2.is refl
                  ∙ (ap (λ (r : Range). Some
                  (fn_param false false r (vTsPat.Ident (made_name (made_symbol number))) (Some ty)))
                  (nowhere_span ts)
                  ∙ ap (λ (q : List ℕ). Some (fn_param false false nowhere (vTsPat.Ident (made_name q)) (Some ty)))
                  (sym (names number) ∙ ap env.name count));
            })

    pub made_gone : (old begun inner mid new : Draft) (place : ℕ) (wrote : Bool) (o : Option Expr)
        → begun.row ≡ old.row ++ opened → place ≡ length old.row → inner.row ≡ begun.row ++ opened
        → state_of inner ≡ state_of old → wrote ≡ false → IfThere (DefaultTyped env x ts inner mid wrote) o
        → new.row ≡ take place mid.row → state_of new ≡ state_of mid → Unnamed old new o
    made_gone old begun inner mid new place wrote o eo ep ei si is h t sn left no_ =
        lifted (λ it a. fin it ((shown_expr env it).rule false false (state_of old)) refl
        (subst (λ (s : State). Typed x ts inner mid wrote ((shown_expr env it).rule false false s)) si a)) h
      where
        fin : (e : Expr) → (d : Option TsType × State) → (shown_expr env e).rule false false (state_of old) ≡ d
            → Typed x ts inner mid wrote d → Turned x ts fn_param_in (default_step env left) old new e
        fin e (Some ty, s) eq a = absurd (true≢false (sym a.0 ∙ is))
        fin e (None, s) eq a =
            default_gone old begun mid new place e left a.2.values eo ep
            (both_written x ts begun.row inner.row mid.row [] a.2.values (gone_written x ts 0 0 begun.row inner.row ei)
            a.2.writes)
            t s eq (sn ∙ a.1)
