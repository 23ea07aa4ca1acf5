-- What patterns of parameters are, and what modifiers make of a parameter.
use Rattle.std.specs.Prelude.{ℕ, ◌+◌, Bool, true, false, ◌||◌, List, [], ◌∷◌, Option, Some, None, option_map, map, if◌then◌else◌, IfSome, slice_get}
use Rattle.std.proofs.Common.{◌≡◌, refl, sym, ap, subst, ◌∙◌}
use Rattle.base.specs.declared.range.Range.{Range}
use Rattle.es_token.specs.declared.token.Token.{Token}
use Rattle.es_token.specs.declared.token.TokenKind.TheVariants as k
use Rattle.grammar_theory.specs.Key.{same_kind}
use Rattle.es_grammar.specs.declared.rows.NodeKind.{NodeKind}
use Rattle.es_grammar.specs.declared.rows.NodeKind.TheVariants as l
use Rattle.es_ast.specs.declared.ts.leaf.Ident.{Ident}
use Rattle.es_ast.specs.declared.ts.ts.TsPart.{TsPart}
use Rattle.es_ast.specs.declared.leaf.Accessibility.{Accessibility}
use Rattle.es_ast.specs.declared.leaf.Accessibility.TheVariants as vAccess
use Rattle.es_ast.specs.declared.leaf.Modifiers.{Modifiers}
use Rattle.es_ast.specs.declared.ast.Expr.{Expr}
use Rattle.es_ast.specs.declared.ast.ObjectPatProp.{ObjectPatProp}
use Rattle.es_ast.specs.declared.ast.Pat.{Pat, roll-Pat, out-Pat, out-roll-Pat}
use Rattle.es_ast.specs.declared.ast.Pat.TheVariants as vPat
use Rattle.es_ast.specs.declared.ast.ClassMember.TheOpen.{Pat-F}
use Rattle.es_site.specs.Parts.{Whole}
use Rattle.es_lowering.specs.Value.{Value, nil, more, given, part, as_group, group, turns, pat_at, pat_prop_at, first_of, behind}
use Rattle.es_lowering.specs.Texts.{span_of, ident_of, ident_at, token_at}
use Rattle.es_lowering.specs.Expressions.{elements}
use Rattle.es_lowering.specs.Patterns.{name_pattern, array_pattern, object_pattern}
use Rattle.es_lowering.specs.Functions.{plain}
use Rattle.es_lowering.specs.TypeTexts as type_texts
use Rattle.es_lowering.specs.TypedParts as typed_parts
use Rattle.es_lowering.specs.TypedParts.{modifiers_in, with_modifier, access_of}
use Rattle.es_lowering.specs.Lowering.{same_label, build, marked_of, pat_of}
use Rattle.es_syntax.specs.declared.entry.Lean.{Lean}
use Rattle.es_syntax.specs.declared.entry.Lean.TheVariants as vLean
use Rattle.es_syntax.specs.declared.entry.What.{What}
use Rattle.es_syntax.specs.declared.entry.What.TheVariants as vWhat
use Rattle.es_syntax.specs.declared.cursor.Item.{Item}
use Rattle.es_syntax.specs.Held.{held, label_of, made, node_of, parts_of, valued}
use Rattle.es_syntax.specs.Roles.{marked_in}
use Rattle.es_syntax.proofs.Others.{in_held, in_role, in_leant}
use Rattle.es_view_statements.specs.param.Param.{Marked}
use Rattle.dts_rules.specs.Rules as rules
use Rattle.dts_rules.specs.Rules.{Env, State, Shown, ShownPat, after, in_pat}
use Rattle.dts_rules.specs.Programs.{shown_expr, shown_pat}
use Rattle.dts_rules.proofs.Shown.{at_pat, beside_pat, with_pat, with_pat_prop}
use Rattle.dts_draft.specs.Written.{IfThere}
use Rattle.dts_draft.proofs.There.{made as made_there, none}
use Rattle.dts_leaves.proofs.NumberLemmas.{token_span}
use Rattle.dts_parts.specs.Params.{pat_rule}
use Rattle.dts_parts.specs.Patterns.{Own, OwnName, Pairs, IsOther, Properties, is_property_word}

-- ---- a node that spans its pattern
pub own_token : (ts : List Token) (p : Value) (from to at : ℕ) → token_at ts p 0 ≡ slice_get ts at → from ≡ at
    → to ≡ at + 1 → OwnName ts p from to
own_token ts p from to at there f t = record {
  token = there ∙ ap (slice_get ts) (sym f);
  ends = t ∙ ap (λ (n : ℕ). n + 1) (sym f);
}

at_node : (x : List ℕ) (ts : List Token) (i : Item) (label : NodeKind) → i.what ≡ vWhat.Node label
    → valued x ts i ≡ node_of x ts label i.from i.to (held x ts i.parts.entries.now)
at_node x ts i label is =
    ap (λ (w : What). made x ts w i.from i.to (held x ts i.parts.entries.now) (parts_of x ts i.parts.entries.now)) is

module _ (x : List ℕ) (ts : List Token) where
  name_is : (t : Token) (r : Range) → t.range ≡ r
      → vPat.Ident (ident_of x t) None t.range ≡ vPat.Ident (type_texts.marked false (ident_of x t)) None r
  unfolding ident_of
  name_is t r e = ap (λ (r : Range). vPat.Ident (ident_of x t) None r) e

  name_pairs : (from to : ℕ) (p : Value) → OwnName ts p from to
      → Pairs (span_of ts from to) (node_of x ts l.NamePattern from to p)
  unfolding build pat_of marked_of name_pattern typed_parts.marked_name
  name_pairs from to p own = go (token_at ts p 0) own.token
    where
      go : (o : Option Token) → o ≡ slice_get ts from
          → option_map (λ t. vPat.Ident (ident_of x t) None t.range) o
          ≡ option_map (λ (m : Marked). m false None (span_of ts from to))
          (option_map (λ id mark ty r. vPat.Ident (type_texts.marked mark id) ty r) (option_map (ident_of x) o))
      go None e = refl
      go (Some t) e =
          ap Some (name_is t (span_of ts from to)
          (sym (token_span ts from t (sym e)) ∙ ap (λ (n : ℕ). span_of ts from n) (sym own.ends)))

  array_pairs : (from to : ℕ) (p : Value) → Pairs (span_of ts from to) (node_of x ts l.ArrayPattern from to p)
  unfolding build pat_of marked_of array_pattern typed_parts.marked_array
  array_pairs from to p = go (elements vPat.Hole pat_at ts (from + 1) (group p 0))
    where
      go : (o : Option (List Pat)) → option_map (λ elems. vPat.Array elems false None (span_of ts from to)) o
          ≡ option_map (λ (m : Marked). m false None (span_of ts from to))
          (option_map (λ elems mark ty r. vPat.Array elems mark ty r) o)
      go None = refl
      go (Some elems) = refl

  object_pairs : (from to : ℕ) (p : Value) → Pairs (span_of ts from to) (node_of x ts l.ObjectPattern from to p)
  unfolding build pat_of marked_of object_pattern typed_parts.marked_object
  object_pairs from to p = go (turns (λ turn. pat_prop_at turn 0) (group p 0))
    where
      go : (o : Option (List ObjectPatProp))
          → option_map (λ props. vPat.Object props false None (span_of ts from to)) o
          ≡ option_map (λ (m : Marked). m false None (span_of ts from to))
          (option_map (λ props mark ty r. vPat.Object props mark ty r) o)
      go None = refl
      go (Some props) = refl

  own_at : (i : Item) (label : NodeKind) → i.what ≡ vWhat.Node label
      → Pairs (span_of ts i.from i.to) (node_of x ts label i.from i.to (held x ts i.parts.entries.now)) → Own x ts i
  own_at i label is h = record {
    pairs = subst (Pairs (span_of ts i.from i.to)) (sym (at_node x ts i label is)) h;
    from = ap first_of (at_node x ts i label is);
    ends = ap behind (at_node x ts i label is);
  }

  pub own_named : (i : Item) → i.what ≡ vWhat.Node l.NamePattern
      → OwnName ts (held x ts i.parts.entries.now) i.from i.to → Own x ts i
  own_named i is own =
      own_at i l.NamePattern is (name_pairs i.from i.to (held x ts i.parts.entries.now) own)

  pub own_array : (i : Item) → i.what ≡ vWhat.Node l.ArrayPattern → Own x ts i
  own_array i is = own_at i l.ArrayPattern is (array_pairs i.from i.to (held x ts i.parts.entries.now))

  pub own_object : (i : Item) → i.what ≡ vWhat.Node l.ObjectPattern → Own x ts i
  own_object i is = own_at i l.ObjectPattern is (object_pairs i.from i.to (held x ts i.parts.entries.now))

-- ---- modifiers
or_true : (a : Bool) → (a || true) ≡ true
or_true true = refl
or_true false = refl

module _ (by : Env) where
  -- a word more, with what it adds
  adds : (p q r ro ov : Bool) (b : Accessibility) (mr mo : Bool)
      → (rules.is_there by
      (if p then vAccess.Public else (if q then vAccess.Protected else (if r then vAccess.Private else b)))
      || ((ro || mr) || (ov || mo)))
      ≡ ((p || (q || (r || (ro || ov)))) || (rules.is_there by b || (mr || mo)))
  adds true q r ro ov b mr mo = refl
  adds false true r ro ov b mr mo = refl
  adds false false true ro ov b mr mo = refl
  adds false false false true ov b mr mo = or_true (rules.is_there by b)
  adds false false false false true b true mo = or_true (rules.is_there by b)
  adds false false false false true b false mo = or_true (rules.is_there by b)
  adds false false false false false b mr mo = refl

  property_adds : (t : Token) (m : Modifiers)
      → rules.is_property by (with_modifier t.kind m) ≡ (is_property_word (Some t) || rules.is_property by m)
  unfolding with_modifier access_of
  property_adds t m =
      adds (same_kind t.kind k.PublicWord) (same_kind t.kind k.ProtectedWord) (same_kind t.kind k.PrivateWord)
      (same_kind t.kind k.ReadonlyWord) (same_kind t.kind k.OverrideWord) m.accessibility m.readonly m.is_override

  module _ (ts : List Token) where
    pub properties_none : (row : Value) (b : Bool) → row ≡ nil → Properties by ts b b row
    properties_none row b e =
        subst (λ (row : Value). Properties by ts b b row) (sym e) (λ m known. known)

    one_more : (o : Option Token) (vs : Value) (before word mid after : Bool) → word ≡ is_property_word o
        → mid ≡ (word || before) → Properties by ts mid after vs → (m : Modifiers) → rules.is_property by m ≡ before
        → IfSome (given (option_map (λ t. t.kind) o) (λ kind. modifiers_in ts (with_modifier kind m) vs))
        (λ m. rules.is_property by m ≡ after)
    one_more None vs before word mid after w e rest m known = tt
    one_more (Some t) vs before word mid after w e rest m known =
        rest (with_modifier t.kind m) (property_adds t m
        ∙ (ap (λ (a : Bool). a || rules.is_property by m) (sym w)
        ∙ (ap (λ (b : Bool). word || b) known ∙ sym e)))

    pub properties_next : (row v vs : Value) (before word mid after : Bool) → row ≡ more v vs
        → word ≡ is_property_word (token_at ts (as_group v) 0) → mid ≡ (word || before) → Properties by ts mid after vs
        → Properties by ts before after row
    properties_next row v vs before word mid after e w m rest =
        subst (λ (row : Value). Properties by ts before after row) (sym e)
        (one_more (token_at ts (as_group v) 0) vs before word mid after w m rest)

    pub property_of : (row : Value) (b : Bool) → Properties by ts false b row
        → IfSome (modifiers_in ts plain row) (λ m. rules.is_property by m ≡ b)
    property_of row b h = h plain refl

-- ---- what the rules make of patterns
module _ (by : Env) where
  rule_by : (it : Pat) (w : Whole Pat-F) → roll-Pat w ≡ it → (s : State)
      → pat_rule by it s ≡ (in_pat by (beside_pat by w)).declared s
  rule_by it w rolls s = ap (λ (p : ShownPat). p.declared s) (ap (shown_pat by) (sym rolls) ∙ at_pat by w)

  out_is : (it : Pat) (w : Whole Pat-F) → roll-Pat w ≡ it → out-Pat it ≡ w
  out_is it w rolls = ap out-Pat (sym rolls) ∙ out-roll-Pat w

  firsts : (elems : List Pat) → map (λ (e : Pat × ShownPat). e.0) (map (with_pat by) elems) ≡ elems
  firsts [] = refl
  firsts (p ∷ ps) = ap (λ rest. p ∷ rest) (firsts ps)

  firsts_of : {B : Type 0} (f : ObjectPatProp → B) (props : List ObjectPatProp)
      → map (λ (e : ObjectPatProp × B). e.0) (map (λ p. (p, f p)) props) ≡ props
  firsts_of f [] = refl
  firsts_of f (p ∷ ps) = ap (λ rest. p ∷ rest) (firsts_of f ps)

  pub pat_ident : (id : Ident) (a : Option TsPart) (r : Range) (s : State)
      → pat_rule by (vPat.Ident id a r) s ≡ rules.name_or_any by id a r s
  pat_ident id a r s = rule_by _ (Pat-F.Pat::Ident id a r) (vPat.rolls-Ident id a r) s

  pub pat_this : (a : Option TsPart) (r : Range) (s : State) → pat_rule by (vPat.This a r) s ≡ (vPat.This a r, s)
  pat_this a r s = rule_by _ (Pat-F.Pat::This a r) (vPat.rolls-This a r) s

  pub pat_array : (elems : List Pat) (mark : Bool) (a : Option TsPart) (r : Range) (s : State)
      → pat_rule by (vPat.Array elems mark a r) s ≡ (vPat.Array elems mark a r, s)
  pat_array elems mark a r s =
      rule_by _ (Pat-F.Pat::Array elems mark a r) (vPat.rolls-Array elems mark a r) s
      ∙ ap (λ (elems : List Pat). (vPat.Array elems mark a r, s)) (firsts elems)

  pub pat_object : (props : List ObjectPatProp) (mark : Bool) (a : Option TsPart) (r : Range) (s : State)
      → pat_rule by (vPat.Object props mark a r) s ≡ (vPat.Object props mark a r, s)
  pat_object props mark a r s =
      rule_by _ (Pat-F.Pat::Object props mark a r) (vPat.rolls-Object props mark a r) s
      ∙ ap (λ (props : List ObjectPatProp). (vPat.Object props mark a r, s))
      (firsts_of (λ p. (with_pat_prop by p).1) props)

  pub pat_rest : (arg : Pat) (a : Option TsPart) (r : Range) (s : State)
      → pat_rule by (vPat.Rest arg a r) s ≡ (vPat.Rest arg a r, s)
  pat_rest arg a r s = rule_by _ (Pat-F.Pat::Rest arg a r) (vPat.rolls-Rest arg a r) s

  pub pat_expr : (e : Expr) (s : State) → pat_rule by (vPat.Expr e) s ≡ (vPat.Expr e, s)
  pat_expr e s = rule_by _ (Pat-F.Pat::Expr e) (vPat.rolls-Expr e) s

  pub pat_assign : (left : Pat) (right : Expr) (r : Range) (s : State)
      → pat_rule by (vPat.Assign left right r) s
      ≡ rules.optional_by by (vPat.Assign left right r) (out-Pat left) (shown_expr by right) s
  pat_assign left right r s = rule_by _ (Pat-F.Pat::Assign left right r) (vPat.rolls-Assign left right r) s

  -- ---- with a default
  pub other_this : (a : Option TsPart) (r : Range) → IsOther by (vPat.This a r)
  other_this a r whole e s =
      ap (λ (w : Whole Pat-F). rules.optional_by by whole w e s) (out_is _ (Pat-F.Pat::This a r) (vPat.rolls-This a r))

  pub other_rest : (arg : Pat) (a : Option TsPart) (r : Range) → IsOther by (vPat.Rest arg a r)
  other_rest arg a r whole e s =
      ap (λ (w : Whole Pat-F). rules.optional_by by whole w e s)
      (out_is _ (Pat-F.Pat::Rest arg a r) (vPat.rolls-Rest arg a r))

  pub other_assign : (left : Pat) (right : Expr) (r : Range) → IsOther by (vPat.Assign left right r)
  other_assign left right r whole e s =
      ap (λ (w : Whole Pat-F). rules.optional_by by whole w e s)
      (out_is _ (Pat-F.Pat::Assign left right r) (vPat.rolls-Assign left right r))

  pub other_expr : (it : Expr) → IsOther by (vPat.Expr it)
  other_expr it whole e s =
      ap (λ (w : Whole Pat-F). rules.optional_by by whole w e s) (out_is _ (Pat-F.Pat::Expr it) (vPat.rolls-Expr it))

  -- ---- a pattern that may have a mark and a type
  pub record MarkedRule (m : Marked) : Type 0 where
    pub keeps : (b : Bool) (a : Option TsPart) (r : Range) (whole : Pat) (e : Shown) (s : State)
        → rules.optional_by by whole (out-Pat (m b a r)) e s ≡ after (λ part. m true part r) (rules.typed_by by a e s)
    pub typed : (b : Bool) (ty : TsPart) (r : Range) (s : State)
        → pat_rule by (m b (Some ty) r) s ≡ (m b (Some ty) r, s)
    pub undefaulted : (b : Bool) (a : Option TsPart) (r : Range)
        → rules.is_defaulted_pattern by (out-Pat (m b a r)) ≡ false

  ident_rule : (id : Ident) → MarkedRule (λ mark ty r. vPat.Ident (type_texts.marked mark id) ty r)
  ident_rule id = record {
    keeps = λ b a r whole e s.
        ap (λ (w : Whole Pat-F). rules.optional_by by whole w e s)
        (out_is _ (Pat-F.Pat::Ident (type_texts.marked b id) a r) (vPat.rolls-Ident (type_texts.marked b id) a r));
    typed = λ b ty r s. pat_ident (type_texts.marked b id) (Some ty) r s;
    undefaulted = λ b a r.
        ap (rules.is_defaulted_pattern by)
        (out_is _ (Pat-F.Pat::Ident (type_texts.marked b id) a r) (vPat.rolls-Ident (type_texts.marked b id) a r));
  }

  array_rule : (elems : List Pat) → MarkedRule (λ mark ty r. vPat.Array elems mark ty r)
  array_rule elems = record {
    keeps = λ b a r whole e s.
        ap (λ (w : Whole Pat-F). rules.optional_by by whole w e s)
        (out_is _ (Pat-F.Pat::Array elems b a r) (vPat.rolls-Array elems b a r));
    typed = λ b ty r s. pat_array elems b (Some ty) r s;
    undefaulted = λ b a r.
        ap (rules.is_defaulted_pattern by)
        (out_is _ (Pat-F.Pat::Array elems b a r) (vPat.rolls-Array elems b a r));
  }

  object_rule : (props : List ObjectPatProp) → MarkedRule (λ mark ty r. vPat.Object props mark ty r)
  object_rule props = record {
    keeps = λ b a r whole e s.
        ap (λ (w : Whole Pat-F). rules.optional_by by whole w e s)
        (out_is _ (Pat-F.Pat::Object props b a r) (vPat.rolls-Object props b a r));
    typed = λ b ty r s. pat_object props b (Some ty) r s;
    undefaulted = λ b a r.
        ap (rules.is_defaulted_pattern by)
        (out_is _ (Pat-F.Pat::Object props b a r) (vPat.rolls-Object props b a r));
  }

  module _ (x : List ℕ) (ts : List Token) where
    if_there : (b : Bool) {o p : Option Marked} → IfThere MarkedRule o → IfThere MarkedRule p
        → IfThere MarkedRule (if b then o else p)
    if_there true h g = h
    if_there false h g = g

    marked_node : (label : NodeKind) (from : ℕ) (p : Value) → IfThere MarkedRule (marked_of x ts label from p)
    unfolding marked_of typed_parts.marked_name typed_parts.marked_array typed_parts.marked_object
    marked_node label from p =
        if_there (same_label label l.NamePattern)
        (made_there MarkedRule (λ id mark ty r. vPat.Ident (type_texts.marked mark id) ty r) (ident_at x ts p 0)
        ident_rule)
        (if_there (same_label label l.ArrayPattern)
        (made_there MarkedRule (λ elems mark ty r. vPat.Array elems mark ty r)
        (elements vPat.Hole pat_at ts (from + 1) (group p 0)) array_rule)
        (if_there (same_label label l.ObjectPattern)
        (made_there MarkedRule (λ props mark ty r. vPat.Object props mark ty r)
        (turns (λ turn. pat_prop_at turn 0) (group p 0)) object_rule) (none MarkedRule)))

    no_lean : (lean : Lean) (from : ℕ) (r : Range) (p : Value) → (build x ts (label_of lean) from r p).marked ≡ None
    unfolding build marked_of
    no_lean vLean.Binary from r p = refl
    no_lean vLean.TypedBinary from r p = refl

    absent_there : (o : Option Marked) → o ≡ None → IfThere MarkedRule o
    absent_there o e = subst (λ (o : Option Marked). IfThere MarkedRule o) (sym e) (none MarkedRule)

    marked_place : (w : What) (i : Item)
        → IfThere MarkedRule (marked_in
        (made x ts w i.from i.to (held x ts i.parts.entries.now) (parts_of x ts i.parts.entries.now)))
    unfolding build
    marked_place vWhat.Leaf i = none MarkedRule
    marked_place (vWhat.Node label) i = marked_node label i.from (held x ts i.parts.entries.now)
    marked_place (vWhat.Role label) i =
        absent_there _ (in_role x ts (λ m. m.marked) (λ e. refl) (part (held x ts i.parts.entries.now) 0))
    marked_place vWhat.Parts i = absent_there _ (in_held x ts (λ m. m.marked) i.parts.entries.now)
    marked_place (vWhat.Lean lean) i =
        absent_there _ (in_leant x ts (λ m. m.marked) no_lean lean i.from (parts_of x ts i.parts.entries.now))

    pub marked_there : (i : Item) → IfThere MarkedRule (marked_in (valued x ts i))
    marked_there i = marked_place i.what i
