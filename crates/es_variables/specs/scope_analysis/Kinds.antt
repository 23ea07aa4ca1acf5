-- Kinds of bindings.
use Rattle.std.specs.Prelude.{Bool, true, false}
use Rattle.es_variables.specs.declared.scope_analysis.kinds.BindingKind.{BindingKind}
use Rattle.es_variables.specs.declared.scope_analysis.kinds.BindingKind.TheVariants.{NamespaceImport, ValueImport}

abbrev pub is_import : BindingKind → Bool
is_import NamespaceImport = true
is_import ValueImport = true
is_import _ = false
