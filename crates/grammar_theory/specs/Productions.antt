-- The language in which the rows of a grammar are written: `Row` names the rows, `NodeKind` the alternatives that make a node.
-- A row is a rule, a rule's alternatives are forms. What a form means is told in Fits.antt.
use Rattle.std.specs.Prelude.{ℕ, Bool, List}
use Rattle.es_token.specs.declared.token.TokenKind.{TokenKind}
use Rattle.grammar_theory.specs.Key.{Key, TokenTest, seen}

-- what the typed tree keeps of a token
pub data LeafKind : Type 0 where
  -- a string literal, with its value
  as_str : LeafKind
  -- a name, with its text
  as_name : LeafKind
  -- its text as it stands: a number, a piece of a template, a regular expression
  as_raw : LeafKind
  -- which token it is: an operator, a keyword
  as_kind : LeafKind
  -- only that it is there
  as_there : LeafKind

-- a test of any of the tokens, at a place: a written predicate of the grammar
abbrev pub Predicate : Type 0
Predicate = List Key → ℕ → Bool

-- when an optional part, or another turn of a list, is there
pub data Predict : Type 0 where
  -- it may always be there or not: the test tells the code which of the two is read, and bars no reading
  by_lookahead : TokenTest → Predict
  -- it is there wherever the test holds: a written predicate of the grammar
  greedy : TokenTest → Predict
  -- it is there exactly where the test of the tokens holds: a written predicate of the grammar
  by_predicate : Predicate → Predict

pub data Rhs (Row : Type 0) : Type 0 where
  -- nothing more
  done : Rhs Row
  -- a token that the tree keeps
  tok : LeafKind → (TokenKind → Bool) → Rhs Row → Rhs Row
  -- a token that the tree drops
  punct : TokenKind → Rhs Row → Rhs Row
  -- a node of a row
  row : Row → Rhs Row → Rhs Row
  -- an optional part
  opt : Predict → Rhs Row → Rhs Row → Rhs Row
  -- a list, by the form of one turn
  many : Predict → Rhs Row → Rhs Row → Rhs Row
  -- a part by either of two forms: the test tells the code which of them is read, and bars no reading
  alt : TokenTest → Rhs Row → Rhs Row → Rhs Row → Rhs Row
  -- a written predicate on the next token
  when_ : TokenTest → Rhs Row → Rhs Row
  -- a written predicate on any of the tokens
  where_ : Predicate → Rhs Row → Rhs Row

pub data Production (Row NodeKind : Type 0) : Type 0 where
  -- nothing
  refuse : Production Row NodeKind
  -- a node with these parts
  make : NodeKind → Rhs Row → Production Row NodeKind
  -- one of two: the test tells the code which of them is read, and bars no reading
  choose : TokenTest → Production Row NodeKind → Production Row NodeKind → Production Row NodeKind
  -- what another rule makes, in another role, without a node of its own
  as_ : NodeKind → Production Row NodeKind → Production Row NodeKind
  -- one of two: a written predicate tells which
  pick : Predicate → Production Row NodeKind → Production Row NodeKind → Production Row NodeKind
  -- an operand, and any number of turns behind it: each makes a node, whose first part is what was read before it
  wrap : NodeKind → Production Row NodeKind → Predict → Rhs Row → Production Row NodeKind

-- the test by which the code tells
abbrev pub test : Predict → Predicate
test (by_lookahead t) = λ K at. t (seen K at)
test (greedy t) = λ K at. t (seen K at)
test (by_predicate g) = g
