use Rattle.std.specs.Str.{chars}
use Rattle.kak_world.proofs.command_error.CommandError.text.Goals as goal

pub returns-in-Unclosed : goal.returns-in-Unclosed
unfolding chars
returns-in-Unclosed c = rw c.in-Unclosed.is c.with_number.ensures

pub returns-in-UnknownExpansion : goal.returns-in-UnknownExpansion
unfolding chars
returns-in-UnknownExpansion c = rw c.in-UnknownExpansion.is c.with_word.ensures

pub returns-in-NoSuchCommand : goal.returns-in-NoSuchCommand
unfolding chars
returns-in-NoSuchCommand c = rw c.in-NoSuchCommand.is c.with_word-in-NoSuchCommand.ensures

pub returns-in-WrongArgumentCount : goal.returns-in-WrongArgumentCount
unfolding chars
returns-in-WrongArgumentCount c = rw c.in-WrongArgumentCount.is c.from_str.ensures

pub returns-in-UnknownSwitch : goal.returns-in-UnknownSwitch
unfolding chars
returns-in-UnknownSwitch c = rw c.in-UnknownSwitch.is c.with_word-in-UnknownSwitch.ensures

pub returns-in-BadValue : goal.returns-in-BadValue
unfolding chars
returns-in-BadValue c = rw c.in-BadValue.is c.from_str-in-BadValue.ensures

pub returns-in-BadSelection : goal.returns-in-BadSelection
unfolding chars
returns-in-BadSelection c = rw c.in-BadSelection.is c.with_word-in-BadSelection.ensures

pub returns-in-NoSuchRegister : goal.returns-in-NoSuchRegister
unfolding chars
returns-in-NoSuchRegister c = rw c.in-NoSuchRegister.is c.with_word-in-NoSuchRegister.ensures

pub returns-in-NoSuchOption : goal.returns-in-NoSuchOption
unfolding chars
returns-in-NoSuchOption c = rw c.in-NoSuchOption.is c.with_word-in-NoSuchOption.ensures

pub returns-in-NoSuchScope : goal.returns-in-NoSuchScope
unfolding chars
returns-in-NoSuchScope c = rw c.in-NoSuchScope.is c.with_word-in-NoSuchScope.ensures

pub returns-in-OptionExists : goal.returns-in-OptionExists
unfolding chars
returns-in-OptionExists c = rw c.in-OptionExists.is c.with_word-in-OptionExists.ensures

pub returns-in-NoSuchBuffer : goal.returns-in-NoSuchBuffer
unfolding chars
returns-in-NoSuchBuffer c = rw c.in-NoSuchBuffer.is c.with_word-in-NoSuchBuffer.ensures

pub returns-in-TooManyBuffers : goal.returns-in-TooManyBuffers
unfolding chars
returns-in-TooManyBuffers c = rw c.in-TooManyBuffers.is c.from_str-in-TooManyBuffers.ensures

pub returns-in-ModifiedRemain : goal.returns-in-ModifiedRemain
unfolding chars
returns-in-ModifiedRemain c = rw c.in-ModifiedRemain.is c.with_names.ensures

pub returns-in-FileFault : goal.returns-in-FileFault
unfolding chars
returns-in-FileFault c = rw c.in-FileFault.is c.with_word-in-FileFault.ensures

pub returns-in-NotUtf8 : goal.returns-in-NotUtf8
unfolding chars
returns-in-NotUtf8 c = rw c.in-NotUtf8.is c.with_number-in-NotUtf8.ensures

pub returns-in-NoSuchFace : goal.returns-in-NoSuchFace
unfolding chars
returns-in-NoSuchFace c = rw c.in-NoSuchFace.is c.with_word-in-NoSuchFace.ensures

pub returns-in-FaceCycle : goal.returns-in-FaceCycle
unfolding chars
returns-in-FaceCycle c = rw c.in-FaceCycle.is c.with_word-in-FaceCycle.ensures

pub returns-in-BadFace : goal.returns-in-BadFace
unfolding chars
returns-in-BadFace c = rw c.in-BadFace.is c.with_number-in-BadFace.ensures

pub returns-in-NoSuchHighlighter : goal.returns-in-NoSuchHighlighter
unfolding chars
returns-in-NoSuchHighlighter c = rw c.in-NoSuchHighlighter.is c.with_word-in-NoSuchHighlighter.ensures

pub returns-in-HighlighterExists : goal.returns-in-HighlighterExists
unfolding chars
returns-in-HighlighterExists c = rw c.in-HighlighterExists.is c.with_word-in-HighlighterExists.ensures

pub returns-in-BadKey : goal.returns-in-BadKey
unfolding chars
returns-in-BadKey c = rw c.in-BadKey.is c.with_number-in-BadKey.ensures

pub returns-in-NoSuchMode : goal.returns-in-NoSuchMode
unfolding chars
returns-in-NoSuchMode c = rw c.in-NoSuchMode.is c.with_word-in-NoSuchMode.ensures

pub returns-in-NoSuchHook : goal.returns-in-NoSuchHook
unfolding chars
returns-in-NoSuchHook c = rw c.in-NoSuchHook.is c.with_word-in-NoSuchHook.ensures

pub returns-in-TooManyHooks : goal.returns-in-TooManyHooks
unfolding chars
returns-in-TooManyHooks c = rw c.in-TooManyHooks.is c.from_str-in-TooManyHooks.ensures
