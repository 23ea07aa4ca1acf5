-- The declarations of a program by its parts, and those of a text by its reading.
use Rattle.std.specs.Prelude.{ℕ, Bool, not, List, [], Option, Some, None, MatchOption}
use Rattle.std.proofs.Common.{◌≡◌, ◌∙◌, sym, ap, subst}
use Rattle.base.specs.declared.range.Range.{Range}
use Rattle.es_token.specs.declared.token.Token.{Token}
use Rattle.es_token.specs.declared.token.Comment.{Comment}
use Rattle.es_token.specs.declared.token.Lexed.{Lexed}
use Rattle.es_lexer.specs.Reads.{Reads}
use Rattle.es_ast.specs.declared.ast.Program.{Program}
use Rattle.es_comments.specs.Placed.{Placed}
use Rattle.es_comments.specs.Standing.{ArePlaced}
use Rattle.es_program.specs.Owned.{Owned}
use Rattle.es_program_printer.specs.Printed.{kept_comments}
use Rattle.es_changed_printer.specs.Pieces.{printed}
use Rattle.deno_ast.specs.Scopes.{AreIds}
use Rattle.dts_rules.specs.declared.found.Found.{Found}
use Rattle.dts_rules.specs.Programs.{declared}
use Rattle.dts_rules.specs.Sets.{Numbers}
use Rattle.dts_sets.specs.Ids.{Numbered}
use Rattle.deno_dts.specs.Kept.{Kept}
use Rattle.deno_dts.specs.Declarations.{declarations_in}
use Rattle.deno_dts.specs.Drafted.{env_with, state_after}
use Rattle.media_type.specs.declared.media_type.MediaType.{MediaType}
use Rattle.source_reading.specs.Tree.{IsTree}
use Rattle.source_declarations.specs.declared.read.SourceDeclarations.{SourceDeclarations}
use Rattle.source_declarations.specs.Answers.{AreRanges, AreOf, HasDeclarations, IsNoProgram}
use Rattle.source_declarations.specs.Steps.{Answers}

-- what the steps of a program's declarations give
module _ (p : Owned Program) (x : List ℕ) (ts : List Token) (e : x ≡ p.text) (f : ts ≡ p.tokens) where
  pub are_of : (comments : List Comment) (with_comments : Bool) (placed shared : Placed) (numbers : List ℕ)
      (ranges : List Range) (kept : Kept) (found : List Found) (made : ℕ) (text : List ℕ)
      → ArePlaced x ts comments placed → shared ≡ placed → AreIds p numbers → AreRanges p.typed ranges
      → ((number : Numbers) → Numbered p.tokens numbers number
      → declarations_in kept ≡ Some (declared (env_with number 0 ranges) p.typed (state_after [] 0)).0)
      → ((number : Numbers) → Numbered p.tokens numbers number
      → state_after found made ≡ (declared (env_with number 0 ranges) p.typed (state_after [] 0)).1)
      → kept.text ≡ p.text → kept.tokens ≡ p.tokens → kept.numbers ≡ numbers
      → text ≡ printed kept.text kept.tokens (kept_comments (not with_comments) shared) kept.entries
      → AreOf comments with_comments p (record { text = text; found = found })
  are_of comments with_comments placed shared numbers ranges kept found made text are_placed same ids are_ranges tree
      finds text_is tokens_are numbers_are is = record {
        kept = kept;
        text_is = text_is;
        tokens_are = tokens_are;
        numbers = subst (λ (n : List ℕ). AreIds p n) (sym numbers_are) ids;
        ranges = ranges;
        are_ranges = are_ranges;
        made = made;
        declares = λ number numbered.
            let so = subst (λ (n : List ℕ). Numbered p.tokens n number) numbers_are numbered in
            (tree number so, finds number so);
        placed = placed;
        are_placed = rw (← e, ← f) are_placed;
        text = is ∙ ap (λ (c : Placed). printed kept.text kept.tokens (kept_comments (not with_comments) c) kept.entries) same;
      }

-- what the one reading of a text has
pub read_has : (media : MediaType) (text x : List ℕ) (with_comments : Bool) (lexed : Lexed) (o : Option SourceDeclarations)
    → x ≡ text → Reads x lexed.tokens lexed.comments
    → ((ts : List Token) (cs : List Comment) → Reads x ts cs → (lexed.tokens ≡ ts) × (lexed.comments ≡ cs))
    → Answers media text lexed.tokens lexed.comments with_comments o
    → MatchOption o (IsNoProgram media text) (HasDeclarations media text with_comments)
read_has media text x with_comments lexed None same reads one none = λ ts cs also tree is.
    none tree (subst (λ (l : List Token). IsTree media text l tree)
    (sym (one ts cs (subst (λ (t : List ℕ). Reads t ts cs) (sym same) also)).0) is)
read_has media text x with_comments lexed (Some it) same reads one are = record {
  tokens = lexed.tokens;
  comments = lexed.comments;
  reads = subst (λ (t : List ℕ). Reads t lexed.tokens lexed.comments) same reads;
  are = are;
}
