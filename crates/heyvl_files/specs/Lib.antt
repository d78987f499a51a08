pub use Rattle.spelled_files.specs.FaultTexts
pub use Rattle.spelled_files.specs.FileLaws
pub use Rattle.spelled_files.specs.PrintLaws
pub use Rattle.spelled_files.specs.Programs
pub use Rattle.spelled_files.specs.Sources
