-- The files of a command as the program holds their names.
use Rattle.command_words.specs.Requests as table
use Rattle.command_words.specs.declared.requests.Files.TheVariants as files
use Rattle.command_words.specs.declared.requests.Files.{Files}

-- The files, by their names.
abbrev pub named : Files → table.Files
named files.Zero = table.Files.none
named (files.One file) = table.Files.one file.now
named (files.Two file second) = table.Files.two file.now second.now
