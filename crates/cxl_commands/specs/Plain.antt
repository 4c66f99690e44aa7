-- A form that was read, without where its words lie in memory.
use Rattle.cxl_commands.specs.Form.{Form, OfTable, OfResetHost, OfHost, OfWords}
use Rattle.cxl_commands.specs.declared.form.Form as read
use Rattle.cxl_commands.specs.declared.form.Form.TheVariants as form

-- the same form over the bytes of its words
abbrev pub plain : read.Form → Form
plain (form.OfTable cedt ask) = OfTable cedt.now ask
plain (form.OfResetHost cedt topo ask) = OfResetHost cedt.now topo.now ask
plain (form.OfHost cedt topo image ask) = OfHost cedt.now topo.now image.now ask
plain (form.OfWords ask) = OfWords ask
