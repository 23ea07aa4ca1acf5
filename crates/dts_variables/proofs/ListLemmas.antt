-- What variables are, by what is written of them.
use Rattle.std.specs.Prelude.{ℕ, Bool, true, false, List, [], ◌∷◌, ◌++◌, length, map, Option, Some, None, option_map, if◌then◌else◌}
use Rattle.std.proofs.Common.{◌≡◌, refl, sym, ap, subst, ◌∙◌}
use Rattle.base.specs.declared.range.Range.{Range}
use Rattle.es_token.specs.declared.token.Token.{Token}
use Rattle.es_token.specs.declared.token.TokenKind.{TokenKind}
use Rattle.es_token.specs.declared.token.TokenKind.TheVariants as k
use Rattle.grammar_theory.specs.Key.{same_kind}
use Rattle.es_grammar.specs.declared.rows.NodeKind.{NodeKind}
use Rattle.es_grammar.specs.declared.rows.NodeKind.TheVariants as l
use Rattle.es_ast.specs.declared.leaf.VarDeclKind.{VarDeclKind}
use Rattle.es_ast.specs.declared.leaf.VarDeclKind.TheVariants as vKind
use Rattle.es_ast.specs.declared.ast.Decl.TheVariants as vDecl
use Rattle.es_ast.specs.declared.ast.VarDeclarator.{VarDeclarator}
use Rattle.es_ast.specs.declared.ast.ClassMember.TheOpen.{Decl-F}
use Rattle.es_lowering.specs.Value.{Value, given, part, as_group, group, turns, declarator_at}
use Rattle.es_lowering.specs.Texts.{span_of, kind_at}
use Rattle.es_lowering.specs.Operators.{listed, variable_kinds}
use Rattle.es_lowering.specs.Statements.{variables, decl_of}
use Rattle.es_lowering.specs.Lowering.{packed, build}
use Rattle.es_lowering.specs.Lowering as lowering
use Rattle.es_syntax.specs.declared.entry.What.{What}
use Rattle.es_syntax.specs.declared.entry.What.TheVariants as vWhat
use Rattle.es_syntax.specs.declared.cursor.Item.{Item}
use Rattle.es_syntax.specs.Held.{held, made, node_of, parts_of, valued}
use Rattle.es_syntax.specs.Roles.{declarator_in, variables_in}
use Rattle.es_changed.specs.declared.entry.Change.TheVariants as change
use Rattle.es_changed.specs.Shape.{closed, opened, Writes}
use Rattle.es_changed.proofs.Written.{both_written, group_written, node_written}
use Rattle.dts_rules.specs.Rules.{Env, ShownDecl, ShownDeclarator, State, in_turn, is_plain_const}
use Rattle.dts_rules.specs.Programs as programs
use Rattle.dts_rules.specs.Programs.{shown_decl, shown_declarator}
use Rattle.dts_rules.proofs.Shown.{at_decl, with_declarator}
use Rattle.dts_draft.specs.declared.draft.Draft.{Draft}
use Rattle.dts_draft.specs.Drafts.{state_of}
use Rattle.dts_draft.specs.Written.{IfThere}
use Rattle.dts_draft.proofs.Lists.{as_packed, read_turns}
use Rattle.dts_enums.specs.Enums.{Something}
use Rattle.dts_parts.specs.Params.{Made, AllMade}
use Rattle.dts_variables.specs.Declarators.{declarator_turn, declarators_in, DeclaratorMade}
use Rattle.dts_variables.specs.Variables.{VariablesMade}

-- ---- kinds of variables
kind_by : (a b c : Bool) (kind : VarDeclKind)
    → (if a then Some vKind.Var else (if b then Some vKind.Let else (if c then Some vKind.Const else None))) ≡ Some kind
    → is_plain_const kind ≡ true
kind_by true b c kind e = let f : vKind.Var ≡ kind = cc in subst (λ (k : VarDeclKind). is_plain_const k ≡ true) f refl
kind_by false true c kind e =
    let f : vKind.Let ≡ kind = cc in subst (λ (k : VarDeclKind). is_plain_const k ≡ true) f refl
kind_by false false true kind e =
    let f : vKind.Const ≡ kind = cc in subst (λ (k : VarDeclKind). is_plain_const k ≡ true) f refl
kind_by false false false kind e = let bad : ⊥ = cc in absurd bad

plain_kind : (o : Option TokenKind) (kind : VarDeclKind) → given o (listed variable_kinds) ≡ Some kind
    → is_plain_const kind ≡ true
unfolding variable_kinds
plain_kind None kind e = let bad : ⊥ = cc in absurd bad
plain_kind (Some t) kind e = kind_by (same_kind t k.VarWord) (same_kind t k.LetWord) (same_kind t k.ConstWord) kind e

module _ (by : Env) where
  -- ---- what the rules make of them
  turned : (ds : List VarDeclarator) (s : State)
      → in_turn (λ (d : VarDeclarator × ShownDeclarator). d.1) (map (with_declarator by) ds) s
      ≡ in_turn (shown_declarator by) ds s
  turned [] s = refl
  turned (d ∷ ds) s =
      ap (λ (q : List VarDeclarator × State). ((shown_declarator by d s).0 ∷ q.0, q.1))
      (turned ds (shown_declarator by d s).1)

  declared_is : (declare : Bool) (kind : VarDeclKind) (ds : List VarDeclarator) (r : Range)
      → is_plain_const kind ≡ true → (top : Bool) (s : State)
      → (shown_decl by (vDecl.Var declare kind ds r)).declared top s
      ≡ (
        Some (vDecl.Var top kind (in_turn (shown_declarator by) ds s).0 r),
        (in_turn (shown_declarator by) ds s).1,
      )
  declared_is declare kind ds r plain top s =
      ap (λ (d : ShownDecl). d.declared top s)
      (ap (shown_decl by) (sym (vDecl.rolls-Var declare kind ds r)) ∙ at_decl by (Decl-F.Var declare kind ds r))
      ∙ (ap (λ (b : Bool). (programs.variables by b kind (map (with_declarator by) ds) declare r).declared top s) plain
      ∙ ap (λ (p : List VarDeclarator × State). (Some (vDecl.Var top kind p.0 r), p.1)) (turned ds s))

  module _ (x : List ℕ) (ts : List Token) where
    -- ---- in a turn
    pub turn_made : (old begun mid more_ new : Draft) (place : ℕ) (g w v : Value) → g ≡ as_group w → part g 0 ≡ v
        → begun.row ≡ old.row ++ opened → place ≡ length old.row → state_of begun ≡ state_of old
        → IfThere (DeclaratorMade x ts by begun mid) (declarator_in v) → Something x ts mid.row more_.row
        → new.row ≡ closed (change.Old vWhat.Parts) 0 0 place more_.row → state_of new ≡ state_of mid
        → IfThere (Made x ts declarator_turn (shown_declarator by) old new) (declarator_at (as_group w) 0)
    turn_made old begun mid more_ new place g w v eg ev eo ep sb h s en sn =
        subst (λ (v : Value). IfThere (Made x ts declarator_turn (shown_declarator by) old new) (declarator_in v))
        (sym (ap (λ (g : Value). part g 0) (sym eg) ∙ ev)) (go (declarator_in v) h)
      where
        go : (o : Option VarDeclarator) → IfThere (DeclaratorMade x ts by begun mid) o
            → IfThere (Made x ts declarator_turn (shown_declarator by) old new) o
        go None h = record { is = tt }
        go (Some it) h = record {
          is = record {
            state = sn ∙ (h.is.state ∙ ap (λ (s : State). (shown_declarator by it s).1) sb);
            puts = record {
              value = packed (h.is.puts.value ∷ s.values);
              writes = group_written x ts 0 0 place old.row begun.row more_.row new.row (h.is.puts.value ∷ s.values) eo
                  ep
                  (both_written x ts begun.row mid.row more_.row (h.is.puts.value ∷ []) s.values h.is.puts.writes
                  s.writes)
                  en;
              is = h.is.puts.is ∙ ap (λ (s : State). Some (shown_declarator by it s).0) sb;
            };
          };
        }

    -- ---- as a group
    pub others_made : (old grouped filled new : Draft) (spot : ℕ) (o : Option (List VarDeclarator))
        → grouped.row ≡ old.row ++ opened → spot ≡ length old.row → state_of grouped ≡ state_of old
        → IfThere (AllMade x ts declarator_turn (shown_declarator by) grouped filled) o
        → new.row ≡ closed (change.Old vWhat.Parts) 0 0 spot filled.row → state_of new ≡ state_of filled
        → IfThere (Made x ts declarators_in (in_turn (shown_declarator by)) old new) o
    others_made old grouped filled new spot None eo es sg h en sn = record { is = tt }
    others_made old grouped filled new spot (Some ds) eo es sg h en sn = record {
      is = record {
        state = sn ∙ (h.is.state ∙ ap (λ (s : State). (in_turn (shown_declarator by) ds s).1) sg);
        puts = record {
          value = packed h.is.puts.values;
          writes = group_written x ts 0 0 spot old.row grouped.row filled.row new.row h.is.puts.values eo es
              h.is.puts.writes en;
          is = ap (turns (λ turn. declarator_at turn 0)) (as_packed h.is.puts.values)
              ∙ (read_turns (λ turn. declarator_at turn 0) h.is.puts.values
              (in_turn (shown_declarator by) ds (state_of grouped)).0 h.is.puts.are
              ∙ ap (λ (s : State). Some (in_turn (shown_declarator by) ds s).0) sg);
        };
      };
    }

    -- ---- with their kind
    pub variables_made : (old begun kinded firsts filled new : Draft) (place from to : ℕ) (p v row : Value)
        → part p 1 ≡ v → row ≡ group p 2 → begun.row ≡ old.row ++ opened → place ≡ length old.row
        → Writes x ts begun.row kinded.row (part p 0 ∷ []) → state_of kinded ≡ state_of old
        → IfThere (DeclaratorMade x ts by kinded firsts) (declarator_in v)
        → IfThere (Made x ts declarators_in (in_turn (shown_declarator by)) firsts filled)
        (turns (λ turn. declarator_at turn 0) row)
        → new.row ≡ closed (change.Old (vWhat.Node l.Variables)) from to place filled.row
        → state_of new ≡ state_of filled
        → IfThere (VariablesMade x ts by old new (span_of ts from to)) (variables ts p)
    unfolding variables build lowering.variables_of lowering.decl_of
    variables_made old begun kinded firsts filled new place from to p v row ev er eo ep wk sk h g en sn =
        go (given (kind_at ts p 0) (listed variable_kinds)) refl (declarator_in (part p 1))
        (subst (λ (v : Value). IfThere (DeclaratorMade x ts by kinded firsts) (declarator_in v)) (sym ev) h)
        (turns (λ turn. declarator_at turn 0) (group p 2))
        (subst (λ (row : Value). IfThere
        (Made x ts declarators_in (in_turn (shown_declarator by)) firsts filled)
        (turns (λ turn. declarator_at turn 0) row)) er g)
      where
        one : (kind : VarDeclKind) → given (kind_at ts p 0) (listed variable_kinds) ≡ Some kind → (d : VarDeclarator)
            → DeclaratorMade x ts by kinded firsts d → (ds : List VarDeclarator)
            → Made x ts declarators_in (in_turn (shown_declarator by)) firsts filled ds
            → VariablesMade x ts by old new (span_of ts from to) (kind, d ∷ ds)
        one kind is d m ds n =
            let first : VarDeclarator = (shown_declarator by d (state_of kinded)).0 in
            let others : List VarDeclarator = (in_turn (shown_declarator by) ds (state_of firsts)).0 in
            let reads : variables ts (packed (part p 0 ∷ m.puts.value ∷ n.puts.value ∷ []))
            ≡ Some (kind, first ∷ others) =
            ap (λ (o : Option VarDeclKind). given o (λ kind. given (given (declarator_in m.puts.value) (λ first.
            given (declarators_in n.puts.value) (λ others. Some (first ∷ others)))) (λ decls. Some (kind, decls)))) is
            ∙ (ap (λ (o : Option VarDeclarator). given (given o (λ first.
            given (declarators_in n.puts.value) (λ others. Some (first ∷ others)))) (λ decls. Some (kind, decls)))
            m.puts.is
            ∙ ap (λ (o : Option (List VarDeclarator)). given (given o (λ others. Some (first ∷ others)))
            (λ decls. Some (kind, decls))) n.puts.is) in
            let all : in_turn (shown_declarator by) (d ∷ ds) (state_of old) ≡ (first ∷ others, state_of new) =
            ap (in_turn (shown_declarator by) (d ∷ ds)) (sym sk)
            ∙ (ap (λ (s : State). (
              first ∷ (in_turn (shown_declarator by) ds s).0,
              (in_turn (shown_declarator by) ds s).1,
            )) (sym m.state)
            ∙ ap (λ (s : State). (first ∷ others, s)) (sym (sn ∙ n.state))) in
            let plain : is_plain_const kind ≡ true = plain_kind (kind_at ts p 0) kind is in
            record {
              value = node_of x ts l.Variables from to (packed (part p 0 ∷ m.puts.value ∷ n.puts.value ∷ []));
              writes = node_written x ts l.Variables from to place old.row begun.row filled.row new.row
                  (part p 0 ∷ m.puts.value ∷ n.puts.value ∷ []) eo ep
                  (both_written x ts begun.row kinded.row filled.row (part p 0 ∷ [])
                  (m.puts.value ∷ n.puts.value ∷ []) wk
                  (both_written x ts kinded.row firsts.row filled.row (m.puts.value ∷ []) (n.puts.value ∷ [])
                  m.puts.writes n.puts.writes)) en;
              it = (kind, first ∷ others);
              variables = reads;
              decl = ap (option_map (decl_of (span_of ts from to))) reads;
              plain = plain;
              declared = λ declare top r.
                  declared_is declare kind (d ∷ ds) r plain top (state_of old)
                  ∙ ap (λ (q : List VarDeclarator × State). (Some (vDecl.Var top kind q.0 r), q.1)) all;
            }

        go : (o : Option VarDeclKind) → given (kind_at ts p 0) (listed variable_kinds) ≡ o
            → (f : Option VarDeclarator) → IfThere (DeclaratorMade x ts by kinded firsts) f
            → (os : Option (List VarDeclarator))
            → IfThere (Made x ts declarators_in (in_turn (shown_declarator by)) firsts filled) os
            → IfThere (VariablesMade x ts by old new (span_of ts from to)) (given o (λ kind.
            given (given f (λ first. given os (λ others. Some (first ∷ others)))) (λ decls. Some (kind, decls))))
        go None is f h os g = record { is = tt }
        go (Some kind) is None h os g = record { is = tt }
        go (Some kind) is (Some d) h None g = record { is = tt }
        go (Some kind) is (Some d) h (Some ds) g = record { is = one kind is d h.is ds g.is }

    -- at their place
    pub variables_there : (old new : Draft) (i : Item) (label : NodeKind) → i.what ≡ vWhat.Node label
        → label ≡ l.Variables
        → IfThere (VariablesMade x ts by old new (span_of ts i.from i.to)) (variables ts (held x ts i.parts.entries.now))
        → IfThere (VariablesMade x ts by old new (span_of ts i.from i.to)) (variables_in (valued x ts i))
    unfolding build lowering.variables_of
    variables_there old new i label is e h =
        subst (λ (w : What). IfThere (VariablesMade x ts by old new (span_of ts i.from i.to)) (variables_in
        (made x ts w i.from i.to (held x ts i.parts.entries.now) (parts_of x ts i.parts.entries.now))))
        (sym (is ∙ ap (λ (label : NodeKind). vWhat.Node label) e)) h
