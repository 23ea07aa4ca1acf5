-- What a declaration adds, from what its parts add.
use Rattle.std.specs.Prelude.{ℕ, ◌+◌, Bool, true, false, List, ◌∷◌, Option, Some, None, if◌then◌else◌, IfSome}
use Rattle.std.specs.Option.{option_map}
use Rattle.std.proofs.Common.{◌≡◌, refl, sym, ap, subst, ◌∙◌}
use denote.Enum.Bare.{same_true}
use Rattle.base.specs.declared.range.Range.{Range}
use Rattle.es_token.specs.declared.token.Token.{Token}
use Rattle.es_token.specs.contracts.token.TokenKind.{the_type}
use Rattle.es_token.specs.declared.token.TokenKind.{TokenKind}
use Rattle.es_token.specs.declared.token.TokenKind.TheVariants as k
use Rattle.grammar_theory.specs.Key.{same_kind}
use Rattle.es_ast.specs.declared.ts.leaf.Ident.{Ident}
use Rattle.es_ast.specs.declared.ts.leaf.TsEntityName.{TsEntityName}
use Rattle.es_ast.specs.declared.ts.ts.TsPart.{TsPart}
use Rattle.es_ast.specs.declared.ts.ts.TsPart.TheVariants as vPart
use Rattle.es_ast.specs.declared.ts.ts.TsType.{TsType}
use Rattle.es_ast.specs.declared.leaf.VarDeclKind.{VarDeclKind}
use Rattle.es_ast.specs.declared.leaf.VarDeclKind.TheVariants as vKind
use Rattle.es_ast.specs.declared.ast.Class.{Class}
use Rattle.es_ast.specs.declared.ast.Decl.{Decl, roll-Decl, out-Decl, out-roll-Decl}
use Rattle.es_ast.specs.declared.ast.Decl.TheVariants as vDecl
use Rattle.es_ast.specs.declared.ast.Expr.{Expr, out-Expr}
use Rattle.es_ast.specs.declared.ast.Function.{Function}
use Rattle.es_ast.specs.declared.ast.ModuleItem.{ModuleItem}
use Rattle.es_ast.specs.declared.ast.ObjectPatProp.{ObjectPatProp}
use Rattle.es_ast.specs.declared.ast.Pat.{Pat, roll-Pat, out-Pat, out-roll-Pat}
use Rattle.es_ast.specs.declared.ast.Pat.TheVariants as vPat
use Rattle.es_ast.specs.declared.ast.VarDeclarator.{VarDeclarator, roll-VarDeclarator, out-roll-VarDeclarator}
use Rattle.es_ast.specs.declared.ast.ClassMember.TheOpen.{Decl-F, Pat-F, VarDeclarator-F}
use Rattle.es_site.specs.Parts.{Whole}
use Rattle.es_lowering.specs.Value.{Value, nil, more, given, behind, turns, optional, declarator_at, expr_at, pat_at, pat_prop_at, type_at, type_params_at, type_member_at}
use Rattle.es_lowering.specs.Texts.{ident_of, str_of, token_of}
use Rattle.es_lowering.specs.TypeTexts.{marked}
use Rattle.es_lowering.specs.Expressions.{elements}
use Rattle.es_lowering.specs.Statements.{Variables, declarator_of, using_kind}
use Rattle.es_lowering.specs.TypedParts.{heritage_in, marked_by}
use Rattle.es_lowering.specs.TypedStatements.{Declarable, enum_member, items_of}
use Rattle.es_lowering.specs.Operators.{listed, variable_kinds, is_kind_at}
use Rattle.es_syntax.specs.Roles.{expr_in, ts_type_in}
use Rattle.es_view_expressions.specs.pattern.Pat as pat
use Rattle.es_view_expressions.specs.pattern.Marked as m
use Rattle.es_view_statements.specs.decl.Decl as decl
use Rattle.es_view_statements.specs.decl.Declarable as d
use Rattle.es_view_statements.specs.decl.Declarator as declarator
use Rattle.es_view_statements.specs.decl.Variables as var
use Rattle.es_expr_spans.proofs.Given.{Of, one, none}
use Rattle.dts_rules.specs.Sets.{Numbers, Sets, no_sets, type_in, is_function_by, const_by, const_sets, decl_by, decl_sets}
use Rattle.dts_sets.specs.declared.known.Flags.{Flags}
use Rattle.dts_sets.specs.declared.known.Known.{Known}
use Rattle.dts_sets.specs.Forms.{Literal, ArrayType, is_word}
use Rattle.dts_sets.specs.Known.{Grown, Adds, Fits, ident_sets, class_of, function_of, pat_sets, marked_sets, consts_of, variables_of, decls_of}
use Rattle.dts_sets.proofs.Grown.{grown_none, grown_by, given_any, adds_more}

-- ---- flags
pub value_fits : (o : Option Expr) (flags : Flags) → IfSome o (λ e. is_function_by (out-Expr e) ≡ flags.typeofs)
    → flags.plain ≡ false → Literal flags.arrays o → IfSome o (λ e. Fits flags None (Some e))
value_fits None flags typeofs plain arrays = tt
value_fits (Some e) flags typeofs plain arrays = record { typeofs = sym typeofs; plain = plain; arrays = sym arrays }

abbrev Part : Value → Option (Option TsPart)
Part g = option_map (λ ty. option_map vPart.TypeAnn ty) (optional type_at g)

abbrev FitsBoth : Flags → Option (Option TsPart) → Option (Option Expr) → Type 0
FitsBoth flags part init = IfSome part (λ part. IfSome init (λ init. Fits flags (type_in part) init))

pub type_fits : (g v vs w : Value) (flags : Flags) → g ≡ more v vs → flags.typeofs ≡ true → flags.plain ≡ false
    → ArrayType flags.arrays (ts_type_in v) → FitsBoth flags (Part g) (optional expr_at w)
type_fits g v vs w flags e typeofs plain arrays =
    let P : Value → Type 0 = λ g. FitsBoth flags (Part g) (optional expr_at w) in
    subst P (sym e) (go (ts_type_in v) arrays (optional expr_at w))
  where
    go : (ty : Option TsType) → ArrayType flags.arrays ty → (init : Option (Option Expr))
        → FitsBoth flags (option_map (λ ty. option_map vPart.TypeAnn ty) (option_map Some ty)) init
    go None known init = tt
    go (Some ty) known None = tt
    go (Some ty) known (Some init) = record { typeofs = typeofs; plain = plain; arrays = sym known }

pub maybe_value_fits : (g w v vs : Value) (flags : Flags) → g ≡ nil → w ≡ more v vs
    → IfSome (expr_in v) (λ e. Fits flags None (Some e)) → FitsBoth flags (Part g) (optional expr_at w)
maybe_value_fits g w v vs flags e f known =
    let P : Value → Type 0 = λ g. FitsBoth flags (Part g) (optional expr_at w) in
    let Q : Value → Type 0 = λ w. IfSome (optional expr_at w) (λ init. Fits flags None init) in
    subst P (sym e) (subst Q (sym f) (go (expr_in v) known))
  where
    go : (o : Option Expr) → IfSome o (λ e. Fits flags None (Some e))
        → IfSome (option_map Some o) (λ init. Fits flags None init)
    go None known = tt
    go (Some e) known = known

pub nothing_fits : (g w : Value) (flags : Flags) → g ≡ nil → w ≡ nil → flags.typeofs ≡ false → flags.plain ≡ false
    → flags.arrays ≡ false → FitsBoth flags (Part g) (optional expr_at w)
nothing_fits g w flags e f typeofs plain arrays =
    let P : Value → Type 0 = λ g. FitsBoth flags (Part g) (optional expr_at w) in
    let Q : Value → Type 0 = λ w. IfSome (optional expr_at w) (λ init. Fits flags None init) in
    subst P (sym e) (subst Q (sym f) (record { typeofs = typeofs; plain = plain; arrays = arrays }))

-- ---- patterns
pat_is : (init : Option Expr) (number : Numbers) (it : Known) (p : Pat) (w : Whole Pat-F) → roll-Pat w ≡ p
    → const_by number init w ≡ no_sets → Adds (pat_sets init number) it it (Some p)
pat_is init number it p w rolls e = record {
  added = grown_by it it no_sets (pat_sets init number p)
      (sym (ap (λ p. const_by number init (out-Pat p)) (sym rolls) ∙ ap (const_by number init) (out-roll-Pat w) ∙ e))
      (grown_none it);
}

flagged_fits : (number : Numbers) (flags : Flags) (ty : Option TsPart) (init : Option Expr) (id : Ident) (r : Range)
    → Fits flags (type_in ty) init → ident_sets flags number id ≡ const_by number init (Pat-F.Pat::Ident id ty r)
flagged_fits number flags ty init id r fits = rw (fits.typeofs, fits.plain, fits.arrays) refl

name_is : (number : Numbers) (flags : Flags) (ty : Option TsPart) (init : Option Expr) (id : Ident) (r : Range)
    → Fits flags (type_in ty) init → ident_sets flags number id ≡ pat_sets init number (vPat.Ident id ty r)
name_is number flags ty init id r fits =
    flagged_fits number flags ty init id r fits
    ∙ sym (ap (λ p. const_by number init (out-Pat p)) (sym (vPat.rolls-Ident id ty r))
    ∙ ap (const_by number init) (out-roll-Pat (Pat-F.Pat::Ident id ty r)))

module _ (init : Option Expr) (number : Numbers) where
  pub adds_name : (x : List ℕ) (o : Option Token) (flags : Flags) (old new : Known) → Fits flags None init
      → Adds (ident_sets flags number) old new (option_map (ident_of x) o)
      → Adds (pat_sets init number) old new (pat.ident x o)
  unfolding pat.ident
  adds_name x None flags old new fits a = record { added = tt }
  adds_name x (Some t) flags old new fits a = record {
    added = grown_by old new _ _ (name_is number flags None init (ident_of x t) t.range fits) a.added;
  }

  pub adds_array : (ts : List Token) (r : Range) (from : ℕ) (v : Value) (it : Known)
      → Adds (pat_sets init number) it it (pat.array ts r from v)
  unfolding pat.array
  adds_array ts r from v it = go (elements vPat.Hole pat_at ts (from + 1) v)
    where
      go : (o : Option (List Pat))
          → Adds (pat_sets init number) it it (option_map (λ elems. vPat.Array elems false None r) o)
      go None = record { added = tt }
      go (Some elems) = pat_is init number it _ (Pat-F.Pat::Array elems false None r)
          (vPat.rolls-Array elems false None r) refl

  pub adds_object : (r : Range) (v : Value) (it : Known) → Adds (pat_sets init number) it it (pat.object r v)
  unfolding pat.object
  adds_object r v it = go (turns (λ turn. pat_prop_at turn 0) v)
    where
      go : (o : Option (List ObjectPatProp))
          → Adds (pat_sets init number) it it (option_map (λ props. vPat.Object props false None r) o)
      go None = record { added = tt }
      go (Some props) = pat_is init number it _ (Pat-F.Pat::Object props false None r)
          (vPat.rolls-Object props false None r) refl

  pub adds_rest : (r : Range) (o : Option Pat) (it : Known) → Adds (pat_sets init number) it it (pat.rest r o)
  unfolding pat.rest
  adds_rest r None it = record { added = tt }
  adds_rest r (Some arg) it = pat_is init number it _ (Pat-F.Pat::Rest arg None r) (vPat.rolls-Rest arg None r) refl

  pub adds_default : (r : Range) (o : Option Pat) (e : Option Expr) (it : Known)
      → Adds (pat_sets init number) it it (pat.default r o e)
  unfolding pat.default
  adds_default r None e it = record { added = tt }
  adds_default r (Some left) None it = record { added = tt }
  adds_default r (Some left) (Some right) it =
      pat_is init number it _ (Pat-F.Pat::Assign left right r) (vPat.rolls-Assign left right r) refl

  pub adds_target : (e : Option Expr) (it : Known) → Adds (pat_sets init number) it it (pat.target e)
  unfolding pat.target
  adds_target None it = record { added = tt }
  adds_target (Some e) it = pat_is init number it _ (Pat-F.Pat::Expr e) (vPat.rolls-Expr e) refl

-- ---- patterns that may have a type behind them
module _ (ty : Option TsPart) (r : Range) (init : Option Expr) (number : Numbers) where
  pub adds_marked_name : (x : List ℕ) (o : Option Token) (flags : Flags) (old new : Known)
      → Fits flags (type_in ty) init
      → Adds (ident_sets flags number) old new (option_map (ident_of x) o)
      → Adds (marked_sets ty r init number) old new (m.ident x o)
  unfolding m.ident
  adds_marked_name x None flags old new fits a = record { added = tt }
  adds_marked_name x (Some t) flags old new fits a = record {
    added = grown_by old new _ _ (name_is number flags ty init (marked false (ident_of x t)) r fits) a.added;
  }

  marked_is : (it : Known) (p : m.AMarked) (w : Whole Pat-F) → roll-Pat w ≡ p false ty r
      → const_by number init w ≡ no_sets
      → Adds (marked_sets ty r init number) it it (Some p)
  marked_is it p w rolls e = record { added = (pat_is init number it (p false ty r) w rolls e).added }

  pub adds_marked_array : (ts : List Token) (from : ℕ) (v : Value) (it : Known)
      → Adds (marked_sets ty r init number) it it (m.array ts from v)
  unfolding m.array
  adds_marked_array ts from v it = go (elements vPat.Hole pat_at ts (from + 1) v)
    where
      go : (o : Option (List Pat))
          → Adds (marked_sets ty r init number) it it (option_map (λ elems mark ty r. vPat.Array elems mark ty r) o)
      go None = record { added = tt }
      go (Some elems) = marked_is it _ (Pat-F.Pat::Array elems false ty r) (vPat.rolls-Array elems false ty r) refl

  pub adds_marked_object : (v : Value) (it : Known) → Adds (marked_sets ty r init number) it it (m.object v)
  unfolding m.object
  adds_marked_object v it = go (turns (λ turn. pat_prop_at turn 0) v)
    where
      go : (o : Option (List ObjectPatProp))
          → Adds (marked_sets ty r init number) it it (option_map (λ props mark ty r. vPat.Object props mark ty r) o)
      go None = record { added = tt }
      go (Some props) = marked_is it _ (Pat-F.Pat::Object props false ty r) (vPat.rolls-Object props false ty r) refl

-- ---- declarators
module _ (number : Numbers) (old new : Known) where
  declarator_is : (w : Whole VarDeclarator-F) → Grown old new (pat_sets w.init number w.name)
      → Adds (const_sets number) old new (Some (roll-VarDeclarator w))
  declarator_is w g = record {
    added = grown_by old new (pat_sets w.init number w.name) (const_sets number (roll-VarDeclarator w))
        (sym (ap (λ (m : Whole VarDeclarator-F). pat_sets m.init number m.name) (out-roll-VarDeclarator w))) g;
  }

  pub adds_assigned : (r : Range) (name : Option Pat) (value : Option Expr) (flags : Flags)
      → IfSome value (λ e. Fits flags None (Some e))
      → ((init : Option Expr) → Fits flags None init → Adds (pat_sets init number) old new name)
      → Adds (const_sets number) old new (declarator.assigned r name value)
  unfolding declarator.assigned
  adds_assigned r None value flags fits a = record { added = tt }
  adds_assigned r (Some p) None flags fits a = record { added = tt }
  adds_assigned r (Some p) (Some e) flags fits a = declarator_is _ (a (Some e) fits).added

  pub adds_pattern : (r : Range) (name : Option Pat) (flags : Flags) → flags.typeofs ≡ false → flags.plain ≡ false
      → flags.arrays ≡ false → ((init : Option Expr) → Fits flags None init → Adds (pat_sets init number) old new name)
      → Adds (const_sets number) old new (option_map (declarator_of r None) name)
  adds_pattern r None flags typeofs plain arrays a = record { added = tt }
  adds_pattern r (Some p) flags typeofs plain arrays a =
      declarator_is _ (a None (record { typeofs = typeofs; plain = plain; arrays = arrays })).added

  typed_by : (span r : Range) (name : Option declarator.Marked) (definite : Bool) (part : Option (Option TsPart))
      (init : Option (Option Expr)) (flags : Flags) → FitsBoth flags part init
      → ((ty : Option TsPart) (r : Range) (init : Option Expr) → Fits flags (type_in ty) init
      → Adds (marked_sets ty r init number) old new name)
      → Adds (const_sets number) old new (given (given part (λ ty. marked_by name false ty span)) (λ pat.
      given init (λ value. Some
      (roll-VarDeclarator (record { name = pat; definite = definite; init = value; span = r })))))
  typed_by span r name definite None init flags fits a = record { added = tt }
  typed_by span r None definite (Some ty) init flags fits a = record { added = tt }
  typed_by span r (Some p) definite (Some ty) None flags fits a = record { added = tt }
  typed_by span r (Some p) definite (Some ty) (Some init) flags fits a = declarator_is _ (a ty span init fits).added

  pub adds_typed : (span r : Range) (name : Option declarator.Marked) (definite : Bool) (ty value : Value)
      (flags : Flags)
      → FitsBoth flags (Part ty) (optional expr_at value)
      → ((ty : Option TsPart) (r : Range) (init : Option Expr) → Fits flags (type_in ty) init
      → Adds (marked_sets ty r init number) old new name)
      → Adds (const_sets number) old new (declarator.typed span r name definite ty value)
  unfolding declarator.typed
  adds_typed span r name definite ty value flags fits a =
      typed_by span r name definite (Part ty) (optional expr_at value) flags fits a

-- ---- variables
pub adds_decls : (number : Numbers) (o : Option VarDeclarator) (os : Option (List VarDeclarator)) (old mid new : Known)
    → Adds (const_sets number) old mid o → Adds (consts_of number) mid new os
    → Adds (consts_of number) old new (decls_of o os)
unfolding decls_of
adds_decls number o os old mid new a b = adds_more (const_sets number) old mid new o os a b

abbrev is_const : VarDeclKind → Bool
is_const vKind.Const = true
is_const _ = false

abbrev Const : TokenKind → VarDeclKind → Type 0
Const kind it = is_const it ≡ same_kind kind k.ConstWord

of_word : (kind word : TokenKind) (it : VarDeclKind) {rest : Option VarDeclKind} → Const word it → Of (Const kind) rest
    → Of (Const kind) (if same_kind kind word then Some it else rest)
of_word kind word it {rest} is known = go (same_kind kind word) refl
  where
    go : (c : Bool) → same_kind kind word ≡ c → Of (Const kind) (if c then Some it else rest)
    go true e =
        let R : TokenKind → Type 0 = λ kind. Const kind it in
        one (Const kind) (subst R (sym (same_true the_type tt kind word e)) is)
    go false e = known

kind_of : (kind : TokenKind) → Of (Const kind) (listed variable_kinds kind)
unfolding variable_kinds
kind_of kind =
    of_word kind k.VarWord vKind.Var refl
    (of_word kind k.LetWord vKind.Let refl (of_word kind k.ConstWord vKind.Const refl (none (Const kind))))

module _ (number : Numbers) where
  abbrev Decls : Option VarDeclarator → Value → Option (List VarDeclarator)
  Decls o v = given o (λ first. given (turns (λ turn. declarator_at turn 0) v) (λ others. Some (first ∷ others)))

  with_decls : (kind : VarDeclKind) (ds : Option (List VarDeclarator)) (old new : Known) (b : Bool) → is_const kind ≡ b
      → (b ≡ true → Adds (consts_of number) old new ds) → (b ≡ false → old ≡ new)
      → Adds (variables_of number) old new (given ds (λ decls. Some (kind, decls)))
  with_decls kind None old new b e const other = record { added = tt }
  with_decls vKind.Const (Some ds) old new true e const other = record { added = (const refl).added }
  with_decls vKind.Const (Some ds) old new false e const other = let bad : ⊥ = cc in absurd bad
  with_decls vKind.Var (Some ds) old new true e const other = let bad : ⊥ = cc in absurd bad
  with_decls vKind.Var (Some ds) old new false e const other =
      let P : Known → Type 0 = λ new. Grown old new no_sets in record { added = subst P (other refl) (grown_none old) }
  with_decls vKind.Let (Some ds) old new true e const other = let bad : ⊥ = cc in absurd bad
  with_decls vKind.Let (Some ds) old new false e const other =
      let P : Known → Type 0 = λ new. Grown old new no_sets in record { added = subst P (other refl) (grown_none old) }
  with_decls vKind.Using (Some ds) old new true e const other = let bad : ⊥ = cc in absurd bad
  with_decls vKind.Using (Some ds) old new false e const other =
      let P : Known → Type 0 = λ new. Grown old new no_sets in record { added = subst P (other refl) (grown_none old) }
  with_decls vKind.AwaitUsing (Some ds) old new true e const other = let bad : ⊥ = cc in absurd bad
  with_decls vKind.AwaitUsing (Some ds) old new false e const other =
      let P : Known → Type 0 = λ new. Grown old new no_sets in record { added = subst P (other refl) (grown_none old) }

  with_kind : (o : Option VarDeclKind) (ds : Option (List VarDeclarator)) (old new : Known) (b : Bool)
      → IfSome o (λ kind. is_const kind ≡ b) → (b ≡ true → Adds (consts_of number) old new ds) → (b ≡ false → old ≡ new)
      → Adds (variables_of number) old new (given o (λ kind. given ds (λ decls. Some (kind, decls))))
  with_kind None ds old new b e const other = record { added = tt }
  with_kind (Some kind) ds old new b e const other = with_decls kind ds old new b e const other

  word_known : (o : Option Token) (b : Bool) → b ≡ is_word k.ConstWord o
      → IfSome (given (option_map (λ t. t.kind) o) (listed variable_kinds)) (λ kind. is_const kind ≡ b)
  word_known None b e = tt
  word_known (Some t) b e =
      let P : Bool → Type 0 = λ b. IfSome (listed variable_kinds t.kind) (λ kind. is_const kind ≡ b) in
      subst P (sym e) (kind_of t.kind).is

  pub adds_consts : (word : Option Token) (o : Option VarDeclarator) (v : Value) (old new : Known)
      → true ≡ is_word k.ConstWord word
      → Adds (consts_of number) old new (decls_of o (turns (λ turn. declarator_at turn 0) v))
      → Adds (variables_of number) old new (var.var_of word o v)
  unfolding var.var_of decls_of
  adds_consts word o v old new e a =
      with_kind (given (option_map (λ t. t.kind) word) (listed variable_kinds)) (Decls o v) old new true
      (word_known word true e) (λ f. a) (λ f. let bad : ⊥ = cc in absurd bad)

  pub adds_no_consts : (word : Option Token) (o : Option VarDeclarator) (v : Value) (it : Known)
      → false ≡ is_word k.ConstWord word → Adds (variables_of number) it it (var.var_of word o v)
  unfolding var.var_of decls_of
  adds_no_consts word o v it e =
      with_kind (given (option_map (λ t. t.kind) word) (listed variable_kinds)) (Decls o v) it it false
      (word_known word false e) (λ f. let bad : ⊥ = cc in absurd bad) (λ f. refl)

  using_by : (is_await : Bool) (ds : Option (List VarDeclarator)) (it : Known)
      → Adds (variables_of number) it it (given ds (λ decls. Some (using_kind is_await, decls)))
  using_by true ds it =
      with_decls (using_kind true) ds it it false refl (λ f. let bad : ⊥ = cc in absurd bad) (λ f. refl)
  using_by false ds it =
      with_decls (using_kind false) ds it it false refl (λ f. let bad : ⊥ = cc in absurd bad) (λ f. refl)

  pub adds_using : (is_await : Bool) (o : Option VarDeclarator) (v : Value) (it : Known)
      → Adds (variables_of number) it it (var.using_of is_await o v)
  unfolding var.using_of
  adds_using is_await o v it = using_by is_await (Decls o v) it

  -- ---- declarations
  decl_is : (d : Decl) (w : Whole Decl-F) (old new : Known) → Grown old new (decl_by number w) → roll-Decl w ≡ d
      → Adds (decl_sets number) old new (Some d)
  decl_is d w old new g rolls = record {
    added = grown_by old new (decl_by number w) (decl_sets number d)
        (sym (ap (λ d. decl_by number (out-Decl d)) (sym rolls) ∙ ap (decl_by number) (out-roll-Decl w))) g;
  }

  pub adds_function : (r : Range) (o : Option Function) (old new : Known) → Adds (function_of number) old new o
      → Adds (decl_sets number) old new (option_map (λ function. vDecl.Fn false function r) o)
  adds_function r None old new a = record { added = tt }
  adds_function r (Some f) old new a = decl_is _ (Decl-F.Decl::Fn false f r) old new a.added (vDecl.rolls-Fn false f r)

  pub adds_class : (r : Range) (o : Option Class) (old new : Known) → Adds (class_of number) old new o
      → Adds (decl_sets number) old new (option_map (λ class. vDecl.Class false class r) o)
  adds_class r None old new a = record { added = tt }
  adds_class r (Some c) old new a =
      decl_is _ (Decl-F.Decl::Class false c r) old new a.added (vDecl.rolls-Class false c r)

  variables_decl : (declare : Bool) (r : Range) (o : Option Variables) (old new : Known)
      → Adds (variables_of number) old new o
      → Adds (decl_sets number) old new (option_map (λ v. vDecl.Var declare v.0 v.1 r) o)
  variables_decl declare r None old new a = record { added = tt }
  variables_decl declare r (Some v) old new a =
      decl_is _ (Decl-F.Var declare v.0 v.1 r) old new a.added (vDecl.rolls-Var declare v.0 v.1 r)

  pub adds_variables : (r : Range) (o : Option Variables) (old new : Known) → Adds (variables_of number) old new o
      → Adds (decl_sets number) old new (decl.var_decl r o)
  unfolding decl.var_decl
  adds_variables r o old new a = variables_decl false r o old new a

  pub adds_var : (r : Range) (word : Option Token) (o : Option VarDeclarator) (v : Value) (old new : Known)
      → Adds (variables_of number) old new (var.var_of word o v)
      → Adds (decl_sets number) old new (decl.var_of r word o v)
  unfolding var.var_of decl.var_of
  adds_var r word o v old new a = variables_decl false r _ old new a

  pub adds_using_decl : (r : Range) (is_await : Bool) (o : Option VarDeclarator) (v : Value) (it : Known)
      → Adds (decl_sets number) it it (decl.using_of r is_await o v)
  unfolding decl.using_of
  adds_using_decl r is_await o v it = variables_decl false r _ it it (using_by is_await (Decls o v) it)

  pub adds_declared_variables : (r : Range) (o : Option Variables) (old new : Known)
      → Adds (variables_of number) old new o
      → Adds (decl_sets number) old new (decl.declared_variables r o)
  unfolding decl.declared_variables
  adds_declared_variables r o old new a = variables_decl true r o old new a

  -- ---- declarations that may stand behind `declare`
  pub adds_declared : (r : Range) (o : Option Declarable) (old new : Known)
      → ((declare : Bool) (r : Range) → Adds (λ (decl : Declarable). decl_sets number (decl declare r)) old new o)
      → Adds (decl_sets number) old new (decl.declared r o)
  unfolding decl.declared
  adds_declared r None old new a = record { added = tt }
  adds_declared r (Some decl) old new a = record { added = (a true r).added }

  pub adds_declarable : (r : Range) (o : Option Declarable) (old new : Known)
      → ((declare : Bool) (r : Range) → Adds (λ (decl : Declarable). decl_sets number (decl declare r)) old new o)
      → Adds (decl_sets number) old new (option_map (λ decl. decl false r) o)
  adds_declarable r None old new a = record { added = tt }
  adds_declarable r (Some decl) old new a = record { added = (a false r).added }

  module _ (declare : Bool) (r : Range) where
    abbrev Of_ : Declarable → Sets
    Of_ decl = decl_sets number (decl declare r)

    declarable_is : (make : Declarable) (w : Whole Decl-F) (old new : Known) → Grown old new (decl_by number w)
        → roll-Decl w ≡ make declare r → Adds Of_ old new (Some make)
    declarable_is make w old new g rolls = record { added = (decl_is (make declare r) w old new g rolls).added }

    pub adds_typed_function : (o : Option Function) (old new : Known) → Adds (function_of number) old new o
        → Adds (λ (decl : Declarable). decl_sets number (decl declare r)) old new
        (option_map (λ function declare span. vDecl.Fn declare function span) o)
    adds_typed_function None old new a = record { added = tt }
    adds_typed_function (Some f) old new a =
        declarable_is _ (Decl-F.Decl::Fn declare f r) old new a.added (vDecl.rolls-Fn declare f r)

    pub adds_typed_class : (o : Option Class) (old new : Known) → Adds (class_of number) old new o
        → Adds (λ (decl : Declarable). decl_sets number (decl declare r)) old new
        (option_map (λ class declare span. vDecl.Class declare class span) o)
    adds_typed_class None old new a = record { added = tt }
    adds_typed_class (Some c) old new a =
        declarable_is _ (Decl-F.Decl::Class declare c r) old new a.added (vDecl.rolls-Class declare c r)

    pub adds_interface : (x : List ℕ) (ts : List Token) (name : Option Token) (params extends members : Value)
        (it : Known)
        → Adds (λ (decl : Declarable). decl_sets number (decl declare r)) it it
        (d.interface_of x ts name params extends members)
    unfolding d.interface_of
    adds_interface x ts name params extends members it =
        given_any Of_ (option_map (ident_of x) name) (λ id.
        given_any Of_ (option_map (λ ps. option_map vPart.TypeParams ps) (optional type_params_at params)) (λ ps.
        given_any Of_ (heritage_in ts extends) (λ hs.
        given_any Of_ (option_map vPart.Members (turns (λ turn. type_member_at turn 0) members)) (λ body.
        declarable_is _ (Decl-F.TsInterface declare id ps hs (Some body) r) it it (grown_none it)
        (vDecl.rolls-TsInterface declare id ps hs (Some body) r)))))

    pub adds_alias : (x : List ℕ) (name : Option Token) (params : Value) (ty : Option TsType) (it : Known)
        → Adds (λ (decl : Declarable). decl_sets number (decl declare r)) it it (d.alias_of x name params ty)
    unfolding d.alias_of
    adds_alias x name params ty it =
        given_any Of_ (option_map (ident_of x) name) (λ id.
        given_any Of_ (option_map (λ ps. option_map vPart.TypeParams ps) (optional type_params_at params)) (λ ps.
        given_any Of_ (option_map vPart.TypeAnn ty) (λ ty.
        declarable_is _ (Decl-F.TsTypeAlias declare id ps (Some ty) r) it it (grown_none it)
        (vDecl.rolls-TsTypeAlias declare id ps (Some ty) r))))

    pub adds_enum : (x : List ℕ) (ts : List Token) (is_const : Bool) (name : Option Token) (members : Value)
        (it : Known)
        → Adds (λ (decl : Declarable). decl_sets number (decl declare r)) it it (d.enum_of x ts is_const name members)
    unfolding d.enum_of
    adds_enum x ts is_const name members it =
        given_any Of_ (option_map (ident_of x) name) (λ id.
        given_any Of_ (turns (enum_member ts) members) (λ ms.
        declarable_is _ (Decl-F.TsEnum declare is_const id ms r) it it (grown_none it)
        (vDecl.rolls-TsEnum declare is_const id ms r)))

    pub adds_namespace : (word : Option Token) (name : Option TsEntityName) (items : Value) (it : Known)
        → Adds (λ (decl : Declarable). decl_sets number (decl declare r)) it it (d.namespace_of word name items)
    unfolding d.namespace_of
    adds_namespace word name items it =
        given_any Of_ (option_map (λ t. t.kind) word) (λ kind.
        given_any Of_ name (λ id.
        given_any Of_ (items_of items) (λ body.
        declarable_is _ (Decl-F.TsNamespace declare (same_kind kind k.ModuleWord) id body r) it it (grown_none it)
        (vDecl.rolls-TsNamespace declare (same_kind kind k.ModuleWord) id body r))))

    pub adds_module : (x : List ℕ) (ts : List Token) (name items : Value) (it : Known)
        → Adds (λ (decl : Declarable). decl_sets number (decl declare r)) it it (d.module_of x ts name items)
    unfolding d.module_of
    adds_module x ts name items it =
        given_any Of_ (option_map (str_of x) (token_of ts name)) (λ id.
        given_any Of_ (items_of items) (λ body.
        declarable_is _ (Decl-F.TsModule declare id (is_kind_at ts k.OpenBrace (behind name)) body r) it it
        (grown_none it)
        (vDecl.rolls-TsModule declare id (is_kind_at ts k.OpenBrace (behind name)) body r)))

    global_by : (o : Option (List ModuleItem)) (it : Known)
        → Adds Of_ it it (option_map (λ body declare r. vDecl.TsGlobal declare body r) o)
    global_by None it = record { added = tt }
    global_by (Some body) it =
        declarable_is _ (Decl-F.TsGlobal declare body r) it it (grown_none it) (vDecl.rolls-TsGlobal declare body r)

    pub adds_global : (items : Value) (it : Known)
        → Adds (λ (decl : Declarable). decl_sets number (decl declare r)) it it (d.global_of items)
    unfolding d.global_of
    adds_global items it = global_by (items_of items) it
