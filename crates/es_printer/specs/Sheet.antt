-- What is printed of a kept tree, piece by piece: all its tokens in their order, each as the innermost node around it says.
use Rattle.std.specs.Prelude.{ℕ, zero, suc, ◌+◌, ◌-◌, Bool, true, false, not, ◌||◌, if◌then◌else◌, List, [], ◌∷◌, ◌++◌, Option, Some, None, slice_get}
use Rattle.es_token.specs.declared.token.Token.{Token}
use Rattle.es_token.specs.declared.token.TokenKind.TheVariants as k
use Rattle.es_grammar.specs.declared.rows.NodeKind.{NodeKind}
use Rattle.es_grammar.specs.declared.cst.tree.Cst.{Cst}
use Rattle.es_grammar.specs.declared.cst.tree.Cst.TheOpen.{Cst-F}
use Rattle.es_grammar.specs.declared.cst.tree.Cst.TheFolds.{fold-Cst}
use Rattle.es_printer.specs.declared.style.Style.{Style}
use Rattle.es_printer.specs.declared.style.Style.TheVariants.{Plain, Program, Block, Body, Fields, Member, Types, Cases, Empty, Tag, Path}
use Rattle.es_printer.specs.declared.style.Ends.{Ends}
use Rattle.es_printer.specs.declared.style.Ends.TheVariants.{Never, Always, Bare}
use Rattle.es_printer.specs.declared.piece.Stand.{Stand}
use Rattle.es_printer.specs.declared.piece.Piece.{Piece}
use Rattle.es_printer.specs.declared.piece.Piece.TheVariants as piece
use Rattle.es_printer.specs.Table.{style, ends}
use Rattle.es_printer.specs.Own.{is, kind_is, stand}

-- the pieces so far, and the first token that isn't printed yet
pub record Sheet : Type 0 where
  pub pieces : List Piece
  pub next : ℕ

-- more pieces
abbrev pub put : List Piece → Sheet → Sheet
put more s = record { pieces = s.pieces ++ more; next = s.next }

-- ---- before and behind a node
-- the comments before an item of a program; and a template stands directly behind its tag
abbrev pub comments : Style → ℕ → List Piece
comments here from = if is Program here then piece.Leading from ∷ [] else []

abbrev pub tag : Style → List Piece
tag own = if is Tag own then piece.Close ∷ [] else []

unfoldable pub before : Style → Style → ℕ → List Piece
before here own from = comments here from ++ tag own

abbrev pub ended : Ends → List Piece
ended Never = []
ended Always = piece.End ∷ []
ended Bare = piece.BareEnd ∷ []

-- a part of a program, a block or a body is an item, but the name of a namespace; what is behind the head of a class is a
-- member; what stands before neither `)` nor `:` in a `switch` is a statement
unfoldable pub is_item : Style → Style → Option Token → Bool
is_item here own next =
    if is Program here || (is Block here || is Body here) then not (is Path own)
    else if is Fields here || is Types here then is Member own || is Empty own
    else if is Cases here then not (kind_is k.CloseParen next || kind_is k.Colon next)
    else false

abbrev pub line : Bool → List Piece
line true = piece.Line ∷ []
line false = []

-- a token, where it is printed
abbrev pub token_by : ℕ → Option Stand → List Piece
token_by at (Some s) = piece.Token s at ∷ []
token_by at None = []

-- ---- parts
-- what is printed of a part, in a node of this style
abbrev pub Shown : Type 0
Shown = Style → Sheet → Sheet

-- one after the other
abbrev pub each : List Shown → Shown
each [] own s = s
each (p ∷ ps) own s = each ps own (p own s)

module _ (ts : List Token) where
  unfoldable pub behind : Style → NodeKind → ℕ → List Piece
  behind here label to = ended (ends label) ++ line (is_item here (style label) (slice_get ts to))

  -- ---- the tokens that belong to a node
  abbrev pub token_at : Style → ℕ → Option Token → List Piece
  token_at own at (Some t) = token_by at (stand ts own t.kind at)
  token_at own at None = []

  -- so many tokens from here on
  abbrev pub tokens_from : Style → ℕ → ℕ → List Piece
  tokens_from own zero at = []
  tokens_from own (suc n) at = token_at own at (slice_get ts at) ++ tokens_from own n (at + 1)

  -- all tokens before this one that aren't printed yet
  unfoldable pub up_to : Style → ℕ → Sheet → Sheet
  up_to own to s = record { pieces = s.pieces ++ tokens_from own (to - s.next) s.next; next = to }

  -- ---- the whole
  -- a node: first what is left of the one around it, then its parts and its tokens
  unfoldable pub node : NodeKind → ℕ → ℕ → Shown → Shown
  node label from to parts here s =
      put (behind here label to) (up_to (style label) to (parts (style label)
      (put (before here (style label) from) (up_to here from s))))

  abbrev pub shown_step : Cst-F Shown → Shown
  shown_step (Cst-F.Leaf at) here s = s
  shown_step (Cst-F.Node label from to parts) here s = node label from to (each parts) here s
  shown_step (Cst-F.Role label tree) here s = tree here s
  shown_step (Cst-F.Parts parts) here s = each parts here s

  unfoldable pub shown : Cst → Shown
  shown = fold-Cst Shown shown_step

  -- what is printed of a program
  abbrev pub pieces : Cst → List Piece
  pieces tree = (shown tree Plain (record { pieces = []; next = 0 })).pieces
