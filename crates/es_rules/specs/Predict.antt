-- What the values that the code gives of the forms stand for.
use Rattle.grammar_theory.specs.Productions.{LeafKind as TableLeafKind, as_str, as_name, as_raw, as_kind, as_there}
use Rattle.es_rules.specs.declared.predict.LeafKind.{LeafKind}
use Rattle.es_rules.specs.declared.predict.LeafKind.TheVariants as sort

-- what the typed tree keeps of a token
abbrev pub leaf_kind_of : LeafKind → TableLeafKind
leaf_kind_of sort.Str = as_str
leaf_kind_of sort.Name = as_name
leaf_kind_of sort.Raw = as_raw
leaf_kind_of sort.Kind = as_kind
leaf_kind_of sort.There = as_there
