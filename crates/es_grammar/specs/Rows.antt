-- Where a row of programs stands; its type, those of the rows and of the alternatives are in src/rows.rt.
use Rattle.std.specs.Prelude.{true, false, ◌||◌}
use Rattle.grammar_theory.specs.declared.error.Lang.{Lang}
use Rattle.grammar_theory.specs.Languages.{typed}
use Rattle.es_grammar.specs.declared.rows.Context.{Context}

-- ---- places

-- the outside of a module, and of a script
abbrev pub in_module : Context
in_module = record {
  script = false;
  as_module = true;
  no_in = false;
  in_async = false;
  no_colon = false;
  in_constructor = false;
}

abbrev pub in_script : Context
in_script = record {
  script = true;
  as_module = false;
  no_in = false;
  in_async = false;
  no_colon = false;
  in_constructor = false;
}

-- the same place, outside the head of a `for` and within brackets
abbrev pub outside : Context → Context
outside c = record {
  script = c.script;
  as_module = c.as_module;
  no_in = false;
  in_async = c.in_async;
  no_colon = false;
  in_constructor = false;
}

-- inside the head of a `for`
abbrev pub in_head : Context → Context
in_head c = record {
  script = c.script;
  as_module = c.as_module;
  no_in = true;
  in_async = c.in_async;
  no_colon = c.no_colon;
  in_constructor = false;
}

-- in an async function
abbrev pub async_in : Context → Context
async_in c = record {
  script = c.script;
  as_module = c.as_module;
  no_in = false;
  in_async = true;
  no_colon = false;
  in_constructor = false;
}

-- in an async arrow's body, which may be in the head of a `for` and where no `:` opens a result
abbrev pub async_here : Context → Context
async_here c = record {
  script = c.script;
  as_module = c.as_module;
  no_in = c.no_in;
  in_async = true;
  no_colon = c.no_colon;
  in_constructor = false;
}

-- where no `:` opens an arrow's result
abbrev pub without_colon : Lang → Context → Context
without_colon l c = record {
  script = c.script;
  as_module = c.as_module;
  no_in = c.no_in;
  in_async = c.in_async;
  no_colon = typed l || c.no_colon;
  in_constructor = c.in_constructor;
}

-- in the parameters of a constructor
abbrev pub constructing : Context → Context
constructing c = record {
  script = c.script;
  as_module = c.as_module;
  no_in = false;
  in_async = c.in_async;
  no_colon = false;
  in_constructor = true;
}
