-- The node of a program: where it stands, and what its parts are.
use Rattle.std.specs.Prelude.{Bool, true, false, Option, Some, None, option_map, if◌then◌else◌}
use Rattle.std.proofs.Common.{◌≡◌, ℕ, List, [], ◌∷◌, refl, sym, ap, ◌∙◌, subst}
use denote.Enum.Bare.{same_true}
use Rattle.base.specs.declared.range.Range.{Range}
use Rattle.es_token.specs.declared.token.Token.{Token}
use Rattle.es_ast.specs.declared.ast.Program.{Program}
use Rattle.es_ast.specs.declared.ast.Program.TheVariants as vProgram
use Rattle.es_grammar.specs.contracts.rows.NodeKind.{the_type}
use Rattle.es_grammar.specs.declared.rows.NodeKind.{NodeKind}
use Rattle.es_grammar.specs.declared.rows.NodeKind.TheVariants as l
use Rattle.es_lowering.specs.Value.{Value, absent, nil, more, token, node, given, optional, turns, part, group, item_at, stmt_at}
use Rattle.es_lowering.specs.Texts.{span_of, shebang_of, shebang_at, token_at}
use Rattle.es_lowering.specs.Modules.{module_, script}
use Rattle.es_lowering.specs.Lowering.{build, program_of, as_target, same_label}
use Rattle.es_syntax.specs.declared.entry.What.{What}
use Rattle.es_syntax.specs.declared.entry.What.TheVariants as vWhat
use Rattle.es_syntax.specs.declared.entry.Lean.{Lean}
use Rattle.es_syntax.specs.declared.entry.Lean.TheVariants as vLean
use Rattle.es_syntax.specs.declared.entry.Entry.{Entry}
use Rattle.es_syntax.specs.declared.cursor.Item.{Item}
use Rattle.es_syntax.specs.Held.{Held, leaning, leaned, leant, made, row_of, parts_of, held, valued}
use Rattle.es_syntax.specs.Roles.{program_in}
use Rattle.es_program.specs.Typed.{is_module_node, tells_module, span_in, shebang_in, HasBody}

some_of : {A B : Type 0} (o : Option A) (f : A → Option B) (b : B) → given o f ≡ Some b
    → (a : A) × (o ≡ Some a) × (f a ≡ Some b)
some_of (Some a) f b e = (a, refl, e)
some_of None f b e = let bad : ⊥ = cc in absurd bad

abbrev label_in : Program → NodeKind
label_in (vProgram.Module m) = l.Module
label_in (vProgram.Script s) = l.Script

module _ (x : List ℕ) (ts : List Token) where
  abbrev BodyIs : Program → Value → Type 0
  BodyIs (vProgram.Module m) v = turns (λ turn. item_at turn 0) v ≡ Some m.body
  BodyIs (vProgram.Script s) v = turns (λ turn. stmt_at turn 0) v ≡ Some s.body

  -- a node over these parts is the program
  record IsNode (w : What) (from to : ℕ) (v : Value) (p : Program) : Type 0 where
    label : w ≡ vWhat.Node (label_in p)
    span : span_in p ≡ span_of ts from to
    line : optional (shebang_at x ts) (group v 0) ≡ Some (shebang_in p)
    body : BodyIs p (group v 1)

  module_is : (r : Range) (v : Value) (p : Program) → module_ x ts r v ≡ Some p
      → (label_in p ≡ l.Module) × (span_in p ≡ r) × (optional (shebang_at x ts) (group v 0) ≡ Some (shebang_in p))
      × BodyIs p (group v 1)
  unfolding module_
  module_is r v p e =
      let one = some_of (optional (shebang_at x ts) (group v 0)) _ p e in
      let two = some_of (turns (λ turn. item_at turn 0) (group v 1)) _ p one.2 in
      let P : Program → Type 0 =
      λ p. (label_in p ≡ l.Module) × (span_in p ≡ r)
      × (optional (shebang_at x ts) (group v 0) ≡ Some (shebang_in p)) × BodyIs p (group v 1) in
      let same : vProgram.Module (record { shebang = one.0; body = two.0; span = r }) ≡ p = cc in
      subst P same (refl, refl, one.1, two.1)

  script_is : (r : Range) (v : Value) (p : Program) → script x ts r v ≡ Some p
      → (label_in p ≡ l.Script) × (span_in p ≡ r) × (optional (shebang_at x ts) (group v 0) ≡ Some (shebang_in p))
      × BodyIs p (group v 1)
  unfolding script
  script_is r v p e =
      let one = some_of (optional (shebang_at x ts) (group v 0)) _ p e in
      let two = some_of (turns (λ turn. stmt_at turn 0) (group v 1)) _ p one.2 in
      let P : Program → Type 0 =
      λ p. (label_in p ≡ l.Script) × (span_in p ≡ r)
      × (optional (shebang_at x ts) (group v 0) ≡ Some (shebang_in p)) × BodyIs p (group v 1) in
      let same : vProgram.Script (record { shebang = one.0; body = two.0; span = r }) ≡ p = cc in
      subst P same (refl, refl, one.1, two.1)

  program_is : (label : NodeKind) (r : Range) (v : Value) (p : Program) → program_of x ts label r v ≡ Some p
      → (label_in p ≡ label) × (span_in p ≡ r) × (optional (shebang_at x ts) (group v 0) ≡ Some (shebang_in p))
      × BodyIs p (group v 1)
  unfolding program_of
  program_is label r v p e = go (same_label label l.Module) (same_label label l.Script) refl refl e
    where
      go : (a b : Bool) → same_label label l.Module ≡ a → same_label label l.Script ≡ b
          → (if a then module_ x ts r v else (if b then script x ts r v else None)) ≡ Some p
          → (label_in p ≡ label) × (span_in p ≡ r) × (optional (shebang_at x ts) (group v 0) ≡ Some (shebang_in p))
          × BodyIs p (group v 1)
      go true b one other made =
          let is = module_is r v p made in
          (is.0 ∙ sym (same_true the_type tt label l.Module one), is.1, is.2, is.3)
      go false true one other made =
          let is = script_is r v p made in
          (is.0 ∙ sym (same_true the_type tt label l.Script other), is.1, is.2, is.3)
      go false false one other made = let bad : ⊥ = cc in absurd bad

  -- no program
  none_role : (v : Value) → program_in (as_target x ts v) ≡ None
  none_role absent = refl
  none_role nil = refl
  none_role (more v vs) = refl
  none_role (token n) = refl
  none_role (node from to m) = refl

  none_row : (ps : List Held) → program_in (row_of x ts ps) ≡ None
  none_row [] = refl
  none_row (p ∷ ps) = refl

  none_held : (es : List Entry) → program_in (held x ts es) ≡ None
  unfolding held
  none_held es = none_row (parts_of x ts es)

  none_leaning : (lean : Lean) (from : ℕ) (v : Value) (p : Held) → program_in (leaning x ts lean from v p) ≡ None
  unfolding build program_of
  none_leaning vLean.Binary from v p = refl
  none_leaning vLean.TypedBinary from v p = refl

  none_leaned : (lean : Lean) (from : ℕ) (v : Value) (ps : List Held) → program_in v ≡ None
      → program_in (leaned x ts lean from v ps) ≡ None
  unfolding leaned
  none_leaned lean from v [] e = e
  none_leaned lean from v (p ∷ ps) e =
      none_leaned lean from (leaning x ts lean from v p) ps (none_leaning lean from v p)

  none_leant : (lean : Lean) (from : ℕ) (ps : List Held) → program_in (leant x ts lean from ps) ≡ None
  none_leant lean from [] = refl
  none_leant lean from (p ∷ []) = refl
  none_leant lean from (p ∷ q ∷ ps) =
      none_leaned lean from (leaning x ts lean from p.1 q) ps (none_leaning lean from p.1 q)

  no_program : {A : Type 0} (o : Option Program) (p : Program) → o ≡ None → o ≡ Some p → A
  no_program o p none some = let bad : ⊥ = cc in absurd bad

  made_is : (w : What) (from to : ℕ) (es : List Entry) (p : Program)
      → program_in (made x ts w from to (held x ts es) (parts_of x ts es)) ≡ Some p → IsNode w from to (held x ts es) p
  unfolding build
  made_is vWhat.Leaf from to es p e = no_program None p refl e
  made_is (vWhat.Node label) from to es p e =
      let is = program_is label (span_of ts from to) (held x ts es) p e in
      record { label = ap vWhat.Node (sym is.0); span = is.1; line = is.2; body = is.3 }
  made_is (vWhat.Role label) from to es p e =
      no_program _ p (none_role (part (held x ts es) 0)) e
  made_is vWhat.Parts from to es p e = no_program _ p (none_held es) e
  made_is (vWhat.Lean lean) from to es p e = no_program _ p (none_leant lean from (parts_of x ts es)) e

  node_is : (i : Item) (p : Program) → program_in (valued x ts i) ≡ Some p
      → IsNode i.what i.from i.to (held x ts i.parts.entries.now) p
  node_is i p e = made_is i.what i.from i.to i.parts.entries.now p e

  -- ---- what is read of a node that is a program
  pub span_told : (i : Item) (p : Program) → program_in (valued x ts i) ≡ Some p → span_in p ≡ span_of ts i.from i.to
  span_told i p e = (node_is i p e).span

  module_label : (p : Program) → same_label (label_in p) l.Module ≡ tells_module p
  module_label (vProgram.Module m) = refl
  module_label (vProgram.Script s) = refl

  pub module_told : (i : Item) (p : Program) → program_in (valued x ts i) ≡ Some p
      → tells_module p ≡ is_module_node i.what
  module_told i p e = sym (ap is_module_node (node_is i p e).label ∙ module_label p)

  one_line : (v : Value) (line : Option (List ℕ)) → optional (shebang_at x ts) v ≡ Some line
      → given (token_at ts v 0) (shebang_of x) ≡ line
  one_line absent line e = cc
  one_line nil line e = cc
  one_line (more v vs) line e = go (given (token_at ts (more v vs) 0) (shebang_of x)) e
    where
      go : (o : Option (List ℕ)) → option_map Some o ≡ Some line → o ≡ line
      go (Some text) e = cc
      go None e = let bad : ⊥ = cc in absurd bad
  one_line (token n) line e = cc
  one_line (node from to m) line e = cc

  pub line_told : (i : Item) (p : Program) → program_in (valued x ts i) ≡ Some p
      → given (token_at ts (group (held x ts i.parts.entries.now) 0) 0) (shebang_of x) ≡ shebang_in p
  line_told i p e = one_line (group (held x ts i.parts.entries.now) 0) (shebang_in p) (node_is i p e).line

  body_is : (p : Program) (es : List Entry) (v : Value) → held x ts es ≡ v → BodyIs p v → HasBody x ts p es
  body_is (vProgram.Module m) es v e is = ap (turns (λ turn. item_at turn 0)) e ∙ is
  body_is (vProgram.Script s) es v e is = ap (turns (λ turn. stmt_at turn 0)) e ∙ is

  pub body_told : (i : Item) (p : Program) (es : List Entry) → program_in (valued x ts i) ≡ Some p
      → held x ts es ≡ group (held x ts i.parts.entries.now) 1 → HasBody x ts p es
  body_told i p es e same = body_is p es (group (held x ts i.parts.entries.now) 1) same (node_is i p e).body
