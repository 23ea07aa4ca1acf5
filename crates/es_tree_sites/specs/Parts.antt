-- The parts of a node, of a group and of a list, as a row has them.
use Rattle.std.specs.Prelude.{◌≡◌, ℕ, ◌≤◌, Bool, true, false, List, [], ◌∷◌, ◌++◌, length, Option, Some, None, map, slice_get, IsCharBoundary}
use Rattle.es_token.specs.declared.token.Token.{Token}
use Rattle.es_grammar.specs.declared.rows.NodeKind.{NodeKind}
use Rattle.es_grammar.specs.declared.rows.NodeKind.TheVariants as l
use Rattle.es_grammar.specs.declared.cst.tree.Cst.{Cst}
use Rattle.es_syntax.specs.declared.entry.Entry.{Entry}
use Rattle.es_syntax.specs.declared.cursor.Siblings.{Siblings}
use Rattle.es_syntax.specs.declared.cursor.Item.{Item}
use Rattle.es_syntax.specs.Trees.{Kept, kept_by, tree_by, trees}
use Rattle.es_law_sites.specs.plain.Part.{Part, absent, nil, more, node, packed}
use Rattle.es_law_sites.specs.plain.Own.{part_of, made}
use Rattle.es_tree_sites.specs.declared.source.TokenizedText.{TokenizedText}

-- the trees that the entries are, each with the token behind it
unfoldable pub kept : List Entry → List Kept
kept es = kept_by (length es) es

-- the tree that stands at a place
abbrev pub tree_at : Item → Cst
tree_at i = tree_by i.what i.from i.to (kept i.parts.entries.now)

-- the first tree, and those behind it
abbrev pub first_trees : Option (Item × Siblings) → List Cst
first_trees (Some p) = tree_at p.0 ∷ trees p.1.entries.now
first_trees None = []

-- the entries of the first part, and those behind it
pub record Heads (es : List Entry) (first : Item) (behind : Siblings) : Type 0 where
  pub head : Entry
  pub what : head.what ≡ first.what
  pub entries : es ≡ head ∷ (first.parts.entries.now ++ behind.entries.now)

abbrev pub Splits : List Entry → Option (Item × Siblings) → Type 0
Splits es (Some p) = Heads es p.0 p.1
Splits es None = es ≡ []

-- what the parts in a row are
unfoldable pub parts_of : List ℕ → List Token → List Entry → Part
parts_of x ts es = packed (map (part_of x ts) (trees es))

abbrev pub parts_in : TokenizedText → Siblings → Part
parts_in source parts = parts_of source.text.now source.tokens.now parts.entries.now

abbrev pub part_in : TokenizedText → Item → Part
part_in source item = part_of source.text.now source.tokens.now (tree_at item)

-- the first part, and those behind it
abbrev pub first_in : TokenizedText → Option (Item × Siblings) → Part
first_in source (Some p) = more (part_in source p.0) (parts_in source p.1)
first_in source None = nil

-- what a part is, where it is there
abbrev pub there : TokenizedText → Option Item → Part
there source (Some item) = part_in source item
there source None = absent

-- a node in another role, and nodes that lean left
abbrev pub is_other : NodeKind → Bool
is_other l.Target = true
is_other l.Binary = true
is_other l.TypedBinary = true
is_other _ = false

-- no node but one of these
abbrev pub IsOther : Part → Type 0
IsOther (node label p sites) = is_other label ≡ true
IsOther _ = Unit {0}

-- the node that a part is, by its alternative and its parts
abbrev pub Seen : TokenizedText → Option (NodeKind × Siblings) → Part → Type 0
Seen source (Some q) v = v ≡ made source.text.now source.tokens.now q.0 (parts_in source q.1)
Seen source None v = IsOther v

-- the range of a token cuts the text between characters
pub record Cuts (x : List ℕ) (t : Token) : Type 0 where
  pub ordered : t.range.start ≤ t.range.end
  pub starts : IsCharBoundary x t.range.start
  pub ends : IsCharBoundary x t.range.end

abbrev pub IsCut : List ℕ → List Token → Type 0
IsCut x ts = (n : ℕ) (t : Token) → slice_get ts n ≡ Some t → Cuts x t

abbrev pub HasCut : TokenizedText → Type 0
HasCut source = IsCut source.text.now source.tokens.now
