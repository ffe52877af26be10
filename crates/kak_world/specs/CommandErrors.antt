-- The status texts of commands that were refused.
use Rattle.std.specs.Prelude.{ℕ, List, ◌++◌, codes, chars, decimal}
use Rattle.kak_world.specs.declared.command_error.CommandError.{CommandError}
use Rattle.kak_world.specs.declared.command_error.CommandError.TheVariants.{Unclosed, UnknownExpansion, NoSuchCommand, WrongArgumentCount, UnknownSwitch, BadValue, BadSelection, NoSuchRegister, NoSuchOption, NoSuchScope, OptionExists, NoSuchBuffer, TooManyBuffers, ModifiedRemain, FileFault, NotUtf8, NoSuchFace, FaceCycle, BadFace, NoSuchHighlighter, HighlighterExists, BadKey, NoSuchMode, NoSuchHook, TooManyHooks, Failed}

abbrev pub command_text : CommandError → List ℕ
command_text (Unclosed at) = codes "unclosed at " ++ decimal at
command_text (UnknownExpansion word) = codes "unknown expansion: " ++ chars word
command_text (NoSuchCommand word) = codes "no such command: " ++ chars word
command_text WrongArgumentCount = codes "wrong argument count"
command_text (UnknownSwitch word) = codes "unknown switch: " ++ chars word
command_text BadValue = codes "bad value"
command_text (BadSelection word) = codes "bad selection description: " ++ chars word
command_text (NoSuchRegister word) = codes "no such register: " ++ chars word
command_text (NoSuchOption word) = codes "no such option: " ++ chars word
command_text (NoSuchScope word) = codes "no such scope: " ++ chars word
command_text (OptionExists word) = codes "option exists: " ++ chars word
command_text (NoSuchBuffer word) = codes "no such buffer: " ++ chars word
command_text TooManyBuffers = codes "too many buffers"
command_text (ModifiedRemain names) = codes "modified buffers remain: " ++ names
command_text (FileFault word) = codes "file fault: " ++ chars word
command_text (NotUtf8 at) = codes "not UTF-8 at byte " ++ decimal at
command_text (NoSuchFace word) = codes "no such face: " ++ chars word
command_text (FaceCycle word) = codes "face cycle: " ++ chars word
command_text (BadFace at) = codes "bad face at " ++ decimal at
command_text (NoSuchHighlighter word) = codes "no such highlighter: " ++ chars word
command_text (HighlighterExists word) = codes "highlighter exists: " ++ chars word
command_text (BadKey at) = codes "bad key at " ++ decimal at
command_text (NoSuchMode word) = codes "no such mode: " ++ chars word
command_text (NoSuchHook word) = codes "no such hook: " ++ chars word
command_text TooManyHooks = codes "too many hooks"
command_text (Failed word) = chars word
