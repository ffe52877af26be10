-- Refusals of a buffer, and of registers, as those of a key.
use Rattle.kak_registers.specs.declared.names.RegisterError.{RegisterError}
use Rattle.kak_registers.specs.declared.names.RegisterError.TheVariants as register
use Rattle.buffer_store.specs.declared.errors.BufferError.{BufferError}
use Rattle.buffer_store.specs.declared.errors.BufferError.TheVariants as edit
use Rattle.buffer_store.specs.declared.errors.MoveError.{MoveError}
use Rattle.buffer_store.specs.declared.errors.MoveError.TheVariants as move
use Rattle.kak_world.specs.declared.ask.EditError.{EditError}
use Rattle.kak_world.specs.declared.ask.EditError.TheVariants.{UndoFull, TextFull, NothingToUndo, NothingToRedo, NoSuchNode, NoSuchRegister, ReadOnlyRegister, RegisterFull, NoMemory}

-- of an edit
abbrev pub of_edit : BufferError → EditError
of_edit edit.UndoFull = UndoFull
of_edit edit.TextFull = TextFull
of_edit edit.NoMemory = NoMemory

-- of a move in its history
abbrev pub of_move : MoveError → EditError
of_move move.AtRoot = NothingToUndo
of_move move.NoChild = NothingToRedo
of_move (move.NoNode n) = NoSuchNode
of_move move.NoMemory = NoMemory

-- of a register that is set
abbrev pub of_register : RegisterError → EditError
of_register (register.NoRegister name) = NoSuchRegister name
of_register (register.ReadOnly name) = ReadOnlyRegister name
of_register register.RegisterFull = RegisterFull
of_register register.NoMemory = NoMemory
