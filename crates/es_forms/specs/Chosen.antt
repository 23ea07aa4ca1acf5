-- Whether any form is chosen.
use Rattle.std.specs.Prelude.{Bool, ◌||◌}
use Rattle.es_forms.specs.declared.chosen.Forms.{Forms}

abbrev pub is_any : Forms → Bool
is_any chosen = chosen.commonjs || (chosen.type_imports || (chosen.workers || chosen.addresses))
