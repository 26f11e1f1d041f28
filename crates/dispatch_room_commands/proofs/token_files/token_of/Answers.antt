use Rattle.std.proofs.Common.{refl}
use Rattle.dispatch_room_commands.proofs.token_files.token_of.Goals as goal

pub returns-in-Word : goal.returns-in-Word
returns-in-Word g c printed = rw c.in-Word.is (c.token_of_word.ensures, refl)

pub returns-in-File : goal.returns-in-File
returns-in-File g c printed = rw c.in-File.is (c.token_of_file.ensures printed)
