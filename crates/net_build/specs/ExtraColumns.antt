-- The columns as the code has them, and those of the definition.
use Rattle.net_form.specs.Tables as tables
use Rattle.net_build.specs.declared.extra_columns.ExtraColumns.{ExtraColumns}

abbrev pub columns_of : ExtraColumns → tables.Columns
columns_of c = tables.columns c.near c.far c.short c.long
