-- The tree of a text with other string literals is the old one, moved.
use Rattle.std.specs.Prelude.{ℕ, List, option_map}
use Rattle.std.proofs.Common.{◌≡◌, ap, ◌∙◌, subst}
use Rattle.es_token.specs.declared.token.Token.{Token}
use Rattle.es_token.specs.declared.token.Comment.{Comment}
use Rattle.es_lexer.specs.Reads.{Reads}
use Rattle.grammar_theory.specs.declared.error.Lang.{Lang}
use Rattle.grammar_theory.specs.declared.error.Mode.{Mode}
use Rattle.grammar_theory.specs.Key.{Key, keys_of}
use Rattle.es_ast.specs.declared.ast.Program.{Program}
use Rattle.es_grammar.specs.Conditions.{IsProgram}
use Rattle.es_grammar.specs.cst.Slim.{tree_of}
use Rattle.es_lowering.specs.Value.{Value}
use Rattle.es_lowering.specs.Lowering.{value_of}
use Rattle.es_lowering.specs.derives.Derives.{Derives, program_in}
use Rattle.source_text.specs.declared.text_changes.change.TextChange.{TextChange}
use Rattle.es_law_edits.specs.tokens.Moved.{Chosen}
use Rattle.es_law_edits.proofs.tokens.Theorems.{literals_move}
use Rattle.es_law_edits.proofs.moved.Rel.{opt_is}
use Rattle.es_law_edits.proofs.moved_lowering.Frame.{Moves, typed_moves, given_moves}
use Rattle.es_law_edits.proofs.moved_lowering.Trees.{value_moves}
use Rattle.es_law_edits.specs.trees.Changed.{edited, tokens_to, move_of, moved_program}
use Rattle.es_law_edits.proofs.trees.Texts.{texts}

program_moves : (changes : List TextChange) (v w : Value) → Moves (move_of changes) v w
    → program_in w ≡ option_map (moved_program changes) (program_in v)
program_moves changes v w h = opt_is (given_moves (typed_moves h) (λ t u e. e.program))

-- where the tokens derive a tree, the moved tokens derive the moved tree of the new text, in the same language and mode
pub derives_move : (l : Lang) (m : Mode) (x : List ℕ) (ts : List Token) (cs : List Comment) (changes : List TextChange)
    (tree : Program) → Reads x ts cs → Chosen ts changes → Derives l m x ts tree
    → Derives l m (edited x changes) (tokens_to changes ts) (moved_program changes tree)
derives_move l m x ts cs changes tree r c d =
    let keys : keys_of ts ≡ keys_of (tokens_to changes ts) = (literals_move x ts cs changes r c).keys in
    let moves : Moves (move_of changes) (value_of x ts (tree_of d.plain))
    (value_of (edited x changes) (tokens_to changes ts) (tree_of d.plain)) =
    value_moves (texts x ts cs changes r c) d.plain in
    record {
      plain = d.plain;
      program = subst (λ (ks : List Key). IsProgram l m ks d.plain) keys d.program;
      lowered = program_moves changes _ _ moves ∙ ap (option_map (moved_program changes)) d.lowered;
    }
