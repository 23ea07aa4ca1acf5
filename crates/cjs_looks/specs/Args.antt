-- What the first of arguments looks like.
use Rattle.std.specs.Prelude.{List, [], ◌∷◌}
use Rattle.cjs_facts.specs.Looks.{Look, other}

abbrev pub first_look : List Look → Look
first_look [] = other
first_look (first ∷ others) = first
