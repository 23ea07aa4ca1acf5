-- What is written of programs.
use Rattle.std.specs.Prelude.{ℕ, Bool, true, List, [], ◌∷◌, ◌++◌, length, Option, Some, None, map}
use Rattle.std.proofs.Common.{◌≡◌, refl, sym, ap, subst, ◌∙◌}
use Rattle.base.specs.declared.range.Range.{Range}
use Rattle.es_token.specs.declared.token.Token.{Token}
use Rattle.es_grammar.specs.declared.rows.NodeKind.{NodeKind}
use Rattle.es_grammar.specs.declared.rows.NodeKind.TheVariants as l
use Rattle.es_ast.specs.declared.ast.ModuleItem.{ModuleItem}
use Rattle.es_ast.specs.declared.ast.Program.{Program}
use Rattle.es_ast.specs.declared.ast.Program.TheVariants as vProgram
use Rattle.es_ast.specs.declared.ast.Stmt.{Stmt}
use Rattle.es_lowering.specs.Value.{Value, as_group, given, group, optional, part, turns, item_at, stmt_at}
use Rattle.es_lowering.specs.Texts.{span_of, shebang_at}
use Rattle.es_lowering.specs.Modules as modules
use Rattle.es_lowering.specs.Lowering.{packed, build, program_of}
use Rattle.es_syntax.specs.declared.entry.What.{What}
use Rattle.es_syntax.specs.declared.entry.What.TheVariants as vWhat
use Rattle.es_syntax.specs.declared.cursor.Item.{Item}
use Rattle.es_syntax.specs.Held.{held, made, node_of, parts_of, valued}
use Rattle.es_syntax.specs.Roles.{program_in}
use Rattle.es_changed.specs.declared.entry.Change.TheVariants as change
use Rattle.es_changed.specs.declared.entry.ChangedEntry.{ChangedEntry}
use Rattle.es_changed.specs.Shape.{closed, opened, Writes}
use Rattle.es_changed.proofs.Written.{both_written, group_written, node_written}
use Rattle.dts_rules.specs.Rules as rules
use Rattle.dts_rules.specs.Rules.{State}
use Rattle.dts_rules.specs.Ranges.{has_range}
use Rattle.dts_rules.specs.Programs.{declared, with_sets}
use Rattle.dts_draft.specs.declared.draft.Draft.{Draft}
use Rattle.dts_draft.specs.Drafts.{state_of}
use Rattle.dts_draft.specs.Written.{IfThere, Puts}
use Rattle.dts_draft.proofs.Lists.{as_packed, read_turns}
use Rattle.dts_module_sets.specs.Items.{program_sets}
use Rattle.dts_parts.specs.Params.{Made}
use Rattle.dts_items.specs.Items.{item_turn, items_rule, stmt_turn, stmts_rule, ItemsPut, StmtsPut}

module _ (x : List ℕ) (ts : List Token) (by : rules.Env) (K : rules.Env → Type 0) (ranges : List Range)
    (over : (r : Range) → by.implements r ≡ has_range ranges r) where
  -- what is written of a program, where its sets are known
  abbrev ProgramIs : Draft → Draft → Program → Type 0
  ProgramIs old new program =
      K (with_sets by (program_sets by.number program)) → Made x ts program_in (declared by) old new program

  written : (label : NodeKind) (old begun kept grouped filled closed_ new : List ChangedEntry)
      (place spot from to : ℕ) (first : Value) (vs : List Value) → begun ≡ old ++ opened → place ≡ length old
      → Writes x ts begun kept (first ∷ []) → grouped ≡ kept ++ opened → spot ≡ length kept
      → Writes x ts grouped filled vs → closed_ ≡ closed (change.Old vWhat.Parts) 0 0 spot filled
      → new ≡ closed (change.Old (vWhat.Node label)) from to place closed_
      → Writes x ts old new (node_of x ts label from to (packed (first ∷ packed vs ∷ [])) ∷ [])
  written label old begun kept grouped filled closed_ new place spot from to first vs eo ep w0 eg es w ec en =
      node_written x ts label from to place old begun closed_ new (first ∷ packed vs ∷ []) eo ep
      (both_written x ts begun kept closed_ (first ∷ []) (packed vs ∷ []) w0
      (group_written x ts 0 0 spot kept grouped filled closed_ vs eg es w ec)) en

  pub module_made : (old begun kept grouped filled closed_ new : Draft) (place spot from to : ℕ) (p row : Value)
      → row ≡ group p 1 → begun.row ≡ old.row ++ opened → place ≡ length old.row
      → Writes x ts begun.row kept.row (part p 0 ∷ []) → grouped.row ≡ kept.row ++ opened → spot ≡ length kept.row
      → state_of grouped ≡ state_of old
      → ((env : rules.Env) → K env → ((r : Range) → env.implements r ≡ has_range ranges r)
      → IfThere (ItemsPut x ts env true grouped filled) (turns (λ turn. item_at turn 0) row))
      → closed_.row ≡ closed (change.Old vWhat.Parts) 0 0 spot filled.row
      → new.row ≡ closed (change.Old (vWhat.Node l.Module)) from to place closed_.row → state_of new ≡ state_of filled
      → IfThere (ProgramIs old new) (modules.module_ x ts (span_of ts from to) p)
  unfolding modules.module_ build program_of declared
  module_made old begun kept grouped filled closed_ new place spot from to p row er eo ep w0 eg es sg h ec en sn =
      subst (λ (row : Value). IfThere (ProgramIs old new) (given (optional (shebang_at x ts) (group p 0)) (λ shebang.
      given (turns (λ turn. item_at turn 0) row) (λ body.
      Some (vProgram.Module (record { shebang = shebang; body = body; span = span_of ts from to })))))) er
      (go (optional (shebang_at x ts) (group p 0)) refl (turns (λ turn. item_at turn 0) row) h)
    where
      go : (shebang : Option (Option (List ℕ))) → optional (shebang_at x ts) (group p 0) ≡ shebang
          → (body : Option (List ModuleItem))
          → ((env : rules.Env) → K env → ((r : Range) → env.implements r ≡ has_range ranges r)
          → IfThere (ItemsPut x ts env true grouped filled) body)
          → IfThere (ProgramIs old new) (given shebang (λ shebang. given body (λ body.
          Some (vProgram.Module (record { shebang = shebang; body = body; span = span_of ts from to })))))
      go None is body h = record { is = tt }
      go (Some shebang) is None h = record { is = tt }
      go (Some shebang) is (Some body) h = record { is = λ knows. all knows (h _ knows over) }
        where
          r : Range
          r = span_of ts from to

          program : Option (List ℕ) → List ModuleItem → Program
          program shebang body = vProgram.Module (record { shebang = shebang; body = body; span = r })

          env : rules.Env
          env = with_sets by (program_sets by.number (program shebang body))

          all : K env → IfThere (ItemsPut x ts env true grouped filled) (Some body)
              → Made x ts program_in (declared by) old new (program shebang body)
          all knows i = record {
            state = sn ∙ (i.is.state ∙ ap (λ (s : State). (items_rule env true body s).1) sg);
            puts = record {
              value = node_of x ts l.Module from to (packed (part p 0 ∷ packed i.is.puts.values ∷ []));
              writes = written l.Module old.row begun.row kept.row grouped.row filled.row closed_.row new.row place spot
                  from to (part p 0) i.is.puts.values eo ep w0 eg es i.is.puts.writes ec en;
              is = ap (λ (o : Option (Option (List ℕ))). given o (λ shebang.
                  given (turns (λ turn. item_at turn 0) (as_group (packed i.is.puts.values))) (λ body.
                  Some (program shebang body)))) is
                  ∙ (ap (λ (v : Value). given (turns (λ turn. item_at turn 0) v) (λ body. Some (program shebang body)))
                  (as_packed i.is.puts.values)
                  ∙ (ap (λ (o : Option (List ModuleItem)). given o (λ body. Some (program shebang body)))
                  (read_turns (λ turn. item_at turn 0) i.is.puts.values (items_rule env true body (state_of grouped)).0
                  i.is.puts.are)
                  ∙ ap (λ (s : State). Some (program shebang (items_rule env true body s).0)) sg));
            };
          }

  pub script_made : (old begun kept grouped filled closed_ new : Draft) (place spot from to : ℕ) (p row : Value)
      → row ≡ group p 1 → begun.row ≡ old.row ++ opened → place ≡ length old.row
      → Writes x ts begun.row kept.row (part p 0 ∷ []) → grouped.row ≡ kept.row ++ opened → spot ≡ length kept.row
      → state_of grouped ≡ state_of old
      → ((env : rules.Env) → K env → ((r : Range) → env.implements r ≡ has_range ranges r)
      → IfThere (StmtsPut x ts env true grouped filled) (turns (λ turn. stmt_at turn 0) row))
      → closed_.row ≡ closed (change.Old vWhat.Parts) 0 0 spot filled.row
      → new.row ≡ closed (change.Old (vWhat.Node l.Script)) from to place closed_.row → state_of new ≡ state_of filled
      → IfThere (ProgramIs old new) (modules.script x ts (span_of ts from to) p)
  unfolding modules.script build program_of declared
  script_made old begun kept grouped filled closed_ new place spot from to p row er eo ep w0 eg es sg h ec en sn =
      subst (λ (row : Value). IfThere (ProgramIs old new) (given (optional (shebang_at x ts) (group p 0)) (λ shebang.
      given (turns (λ turn. stmt_at turn 0) row) (λ body.
      Some (vProgram.Script (record { shebang = shebang; body = body; span = span_of ts from to })))))) er
      (go (optional (shebang_at x ts) (group p 0)) refl (turns (λ turn. stmt_at turn 0) row) h)
    where
      go : (shebang : Option (Option (List ℕ))) → optional (shebang_at x ts) (group p 0) ≡ shebang
          → (body : Option (List Stmt))
          → ((env : rules.Env) → K env → ((r : Range) → env.implements r ≡ has_range ranges r)
          → IfThere (StmtsPut x ts env true grouped filled) body)
          → IfThere (ProgramIs old new) (given shebang (λ shebang. given body (λ body.
          Some (vProgram.Script (record { shebang = shebang; body = body; span = span_of ts from to })))))
      go None is body h = record { is = tt }
      go (Some shebang) is None h = record { is = tt }
      go (Some shebang) is (Some body) h = record { is = λ knows. all knows (h _ knows over) }
        where
          r : Range
          r = span_of ts from to

          program : Option (List ℕ) → List Stmt → Program
          program shebang body = vProgram.Script (record { shebang = shebang; body = body; span = r })

          env : rules.Env
          env = with_sets by (program_sets by.number (program shebang body))

          all : K env → IfThere (StmtsPut x ts env true grouped filled) (Some body)
              → Made x ts program_in (declared by) old new (program shebang body)
          all knows i = record {
            state = sn ∙ (i.is.state ∙ ap (λ (s : State). (stmts_rule env true body s).1) sg);
            puts = record {
              value = node_of x ts l.Script from to (packed (part p 0 ∷ packed i.is.puts.values ∷ []));
              writes = written l.Script old.row begun.row kept.row grouped.row filled.row closed_.row new.row place spot
                  from to (part p 0) i.is.puts.values eo ep w0 eg es i.is.puts.writes ec en;
              is = ap (λ (o : Option (Option (List ℕ))). given o (λ shebang.
                  given (turns (λ turn. stmt_at turn 0) (as_group (packed i.is.puts.values))) (λ body.
                  Some (program shebang body)))) is
                  ∙ (ap (λ (v : Value). given (turns (λ turn. stmt_at turn 0) v) (λ body. Some (program shebang body)))
                  (as_packed i.is.puts.values)
                  ∙ (ap (λ (o : Option (List Stmt)). given o (λ body. Some (program shebang body)))
                  (read_turns (λ turn. stmt_at turn 0) i.is.puts.values (stmts_rule env true body (state_of grouped)).0
                  i.is.puts.are)
                  ∙ ap (λ (s : State). Some (program shebang (stmts_rule env true body s).0)) sg));
            };
          }

  -- ---- at its place
  pub program_there : (old new : Draft) (i : Item) (label : NodeKind) → i.what ≡ vWhat.Node label
      → IfThere (ProgramIs old new)
      (program_of x ts label (span_of ts i.from i.to) (held x ts i.parts.entries.now))
      → IfThere (ProgramIs old new) (program_in (valued x ts i))
  unfolding build
  program_there old new i label is h =
      subst (λ (w : What). IfThere (ProgramIs old new) (program_in
      (made x ts w i.from i.to (held x ts i.parts.entries.now) (parts_of x ts i.parts.entries.now)))) (sym is) h

  pub module_label : (old new : Draft) (r : Range) (p : Value) → IfThere (ProgramIs old new) (modules.module_ x ts r p)
      → IfThere (ProgramIs old new) (program_of x ts l.Module r p)
  unfolding program_of
  module_label old new r p h = h

  pub script_label : (old new : Draft) (r : Range) (p : Value) → IfThere (ProgramIs old new) (modules.script x ts r p)
      → IfThere (ProgramIs old new) (program_of x ts l.Script r p)
  unfolding program_of
  script_label old new r p h = h
