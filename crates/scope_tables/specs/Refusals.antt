-- Why a hook isn't added.
use Rattle.std.specs.Prelude.{◌≡◌, Bool, true, false}
use Rattle.scope_tables.specs.declared.session_tables.TableError.{TableError}
use Rattle.scope_tables.specs.declared.session_tables.TableError.TheVariants.{TableFull, NoMemory}

-- the table is full exactly where that is told; memory may run out only where it isn't
abbrev pub IsTableRefusal : TableError → Bool → Type 0
IsTableRefusal TableFull full = full ≡ true
IsTableRefusal NoMemory full = full ≡ false
