-- What the functions inside the crate promise each other.
use Rattle.media_type.specs.declared.endings.Ending.{Ending}
use Rattle.media_type.specs.declared.content_types.ContentType.{ContentType}
use Rattle.media_type.specs.Endings as endings
use Rattle.media_type.specs.ContentTypes as contents

-- a row of the code's table of endings
abbrev pub ending_of : Ending → endings.Row
ending_of e = (e.text.now, e.media_type)

-- a row of the code's table of content types
abbrev pub content_type_of : ContentType → contents.Row
content_type_of c = (c.text.now, c.rule)
