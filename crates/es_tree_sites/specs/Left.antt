-- What is left to be taken while a walk is on its way, and what it adds.
use Rattle.std.specs.Prelude.{◌≡◌, ℕ, zero, suc, ◌+◌, Bool, true, false, List, [], ◌∷◌, ◌++◌, length, Option, Some, None}
use Rattle.es_grammar.specs.declared.rows.NodeKind.{NodeKind}
use Rattle.es_syntax.specs.declared.entry.Entry.{Entry}
use Rattle.es_syntax.specs.declared.entry.What.{What}
use Rattle.es_syntax.specs.declared.entry.What.TheVariants as vWhat
use Rattle.es_syntax.specs.declared.cursor.Item.{Item}
use Rattle.es_syntax.specs.declared.cursor.Siblings.{Siblings}
use Rattle.es_site.specs.Sites.{Found}
use Rattle.es_law_sites.specs.plain.Part.{Part}
use Rattle.es_tree_sites.specs.declared.plan.Way.{Way}
use Rattle.es_tree_sites.specs.declared.source.TokenizedText.{TokenizedText}
use Rattle.es_tree_sites.specs.declared.walk.Left.{Left}
use Rattle.es_tree_sites.specs.declared.walk.First.{First}
use Rattle.es_tree_sites.specs.Parts.{parts_in, part_in, Heads}
use Rattle.es_tree_sites.specs.Plan.{taken, on, is_tree, names}

-- the sites of what is left of the parts of one node
abbrev pub left_sites : TokenizedText → Left → Found
left_sites source l = taken l.ways.now l.rest (parts_in source l.parts)

-- of what is left at all levels, the innermost last
unfoldable pub ahead : TokenizedText → List Left → Found
ahead source [] = []
ahead source (l ∷ ls) = ahead source ls ++ left_sites source l

-- of the first part, and of those behind it
abbrev pub first_sites : TokenizedText → Option First → Found
first_sites source (Some f) = on f.way (part_in source f.item) ++ left_sites source f.behind
first_sites source None = []

-- the entries of the first part, and those behind it
abbrev pub Begins : List Entry → Option First → Type 0
Begins es (Some f) = Heads es f.item f.behind.parts
Begins es None = es ≡ []

abbrev pub is_parts : What → Bool
is_parts vWhat.Parts = true
is_parts _ = false

-- what a node names by itself
abbrev pub named_if : Bool → TokenizedText → What → Siblings → Found
named_if true source (vWhat.Node label) parts = names source.text.now source.tokens.now label (parts_in source parts)
named_if _ source what parts = []

abbrev pub names_itself : TokenizedText → Way → Item → Found
names_itself source way item = named_if (is_tree way) source item.what item.parts

-- how many steps a walk has left at most
unfoldable pub weight : List Left → ℕ
weight [] = 0
weight (l ∷ ls) = suc (length l.parts.entries.now + length l.parts.entries.now) + weight ls
