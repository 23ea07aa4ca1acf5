-- The items of a program that is lent, and where its tokens cut its text.
use Rattle.std.specs.Prelude.{ℕ, List, Option, Some, None}
use Rattle.std.proofs.Common.{◌≡◌, ◌<◌, IsUtf8, sym, ap, ◌∙◌, arith}
use Rattle.es_token.specs.declared.token.Token.{Token}
use Rattle.es_ast.specs.declared.ast.Module.{Module}
use Rattle.es_ast.specs.declared.ast.Program.TheVariants as vProgram
use Rattle.es_lexer.specs.Reads.{ReadsTokens}
use Rattle.es_lexer.proofs.Theorems.{reads_within, reads_boundary}
use Rattle.es_lowering.specs.Value.{Value, part, group, turns, item_at, absent}
use Rattle.es_syntax.specs.declared.entry.Entry.{Entry}
use Rattle.es_syntax.specs.declared.cursor.Item.{Item}
use Rattle.es_syntax.specs.Held.{held, valued}
use Rattle.es_syntax.specs.Roles.{program_in}
use Rattle.es_program.specs.Typed.{program_at}
use Rattle.es_program.proofs.Programs.{body_told}
use Rattle.es_bound_names.specs.Cuts.{IsCut}

pub reads_cut : (x : List ℕ) (ts : List Token) → IsUtf8 x → ReadsTokens x ts → IsCut x ts
reads_cut x ts utf reads = λ n t there.
    let size : t.range.start < t.range.end = (reads_within x ts reads.0 n t reads.1 there).0 in
    let ends = reads_boundary x ts reads.0 n t utf reads.1 there in
    record { ordered = omega (arith, size); starts = ends.0; ends = ends.1 }

module _ (x : List ℕ) (ts : List Token) where
  -- a program has a node
  pub is_there : (es : List Entry) (m : Module) → program_at x ts es ≡ Some (vProgram.Module m)
      → part (held x ts es) 0 ≡ absent → ⊥
  unfolding program_at
  is_there es m typed e =
      let none : None ≡ Some (vProgram.Module m) = ap program_in (sym e) ∙ typed in
      let bad : ⊥ = cc in absurd bad

  -- the second part of the node
  pub items_told : (es items : List Entry) (i : Item) (m : Module) → program_at x ts es ≡ Some (vProgram.Module m)
      → part (held x ts es) 0 ≡ valued x ts i → held x ts items ≡ group (held x ts i.parts.entries.now) 1
      → turns (λ turn. item_at turn 0) (held x ts items) ≡ Some m.body
  unfolding program_at
  items_told es items i m typed e same =
      body_told x ts i (vProgram.Module m) items (ap program_in (sym e) ∙ typed) same
