-- The commands of a program without reserved names and quantifiers.
use Rattle.pgcl_front.proofs.QuietTokens.{AreQuiet, IsPlain, IsQuiet, Quiet, back_of, front_of, plain_name, quiet_expression, quiet_from}
use Rattle.heyvl_syntax.specs.Expressions.{Expression}
use Rattle.heyvl_syntax.specs.Grammar.{IsBraced, IsFull}
use Rattle.heyvl_syntax.specs.Productions.{IsEach, IsKey, IsMark, IsName, ◌then◌}
use Rattle.heyvl_syntax.specs.declared.keys.Key.TheVariants as keys
use Rattle.heyvl_syntax.specs.declared.marks.Mark.TheVariants as marks
use Rattle.heyvl_syntax.specs.declared.tokens.Token.{Token}
use Rattle.guarded_commands.specs.Grammar.{IsCommand, IsCommands, IsDeclaration, IsEnclosed, IsPblock, IsProg, type_word}
use Rattle.guarded_commands.specs.Programs.{BlockTree, CommandTree, ProgramTree}
use Rattle.guarded_commands.specs.ReservedNames.{IsTranslatable}
use Rattle.guarded_commands.specs.declared.programs.Declaration.{Declaration}
use Rattle.std.proofs.Common.{List, [], length, refl, ◌∷◌}

-- The names of the command are plain, and its expressions are quiet.
abbrev mutual
  pub IsQuietCommand : CommandTree → Type 0
  IsQuietCommand (CommandTree.skip s) = Unit {0}
  IsQuietCommand (CommandTree.assign x e s) = IsPlain x × IsQuiet e
  IsQuietCommand (CommandTree.tick e s) = IsQuiet e
  IsQuietCommand (CommandTree.branch g a b s) = IsQuiet g × (IsQuietBlock a × IsQuietBlock b)
  IsQuietCommand (CommandTree.mix p a b s) = IsQuiet p × (IsQuietBlock a × IsQuietBlock b)
  IsQuietCommand (CommandTree.choice a b s) = IsQuietBlock a × IsQuietBlock b
  IsQuietCommand (CommandTree.repeat g i a s) = IsQuiet g × IsQuietBlock a

  pub IsQuietBlock : BlockTree → Type 0
  IsQuietBlock BlockTree.done = Unit {0}
  IsQuietBlock (BlockTree.next x xs) = IsQuietCommand x × IsQuietBlock xs

enclosed : (e : Expression) (ts : List Token) → IsEnclosed e ts → AreQuiet ts → IsQuiet e
enclosed e ts h q =
    let rest = back_of (IsMark marks.ParenLeft) (IsFull e then IsMark marks.ParenRight) ts h q in
    let inner = front_of (IsFull e) (IsMark marks.ParenRight) rest.text rest.is rest.quiet in
    quiet_expression e 9 inner.text inner.is inner.quiet

braced : (P : List Token → Type 0) (ts : List Token) → IsBraced P ts → AreQuiet ts → Quiet P
braced P ts h q =
    let rest = back_of (IsMark marks.BraceLeft) (P then IsMark marks.BraceRight) ts h q in
    front_of P (IsMark marks.BraceRight) rest.text rest.is rest.quiet

mutual
  quiet_command : (c : CommandTree) (ts : List Token) → IsCommand c ts → AreQuiet ts → IsQuietCommand c
  quiet_command (CommandTree.skip s) ts h q = tt
  quiet_command (CommandTree.assign x e s) ts h q =
      let named = front_of (IsName x) (IsMark marks.Colon then IsMark marks.Assign then IsFull e then IsMark marks.Semi) ts h.0 q in
      let r1 = back_of (IsName x) (IsMark marks.Colon then IsMark marks.Assign then IsFull e then IsMark marks.Semi) ts h.0 q in
      let r2 = back_of (IsMark marks.Colon) (IsMark marks.Assign then IsFull e then IsMark marks.Semi) r1.text r1.is r1.quiet in
      let r3 = back_of (IsMark marks.Assign) (IsFull e then IsMark marks.Semi) r2.text r2.is r2.quiet in
      let value = front_of (IsFull e) (IsMark marks.Semi) r3.text r3.is r3.quiet in
      (plain_name x named.text named.is named.quiet, quiet_expression e 9 value.text value.is value.quiet)
  quiet_command (CommandTree.tick e s) ts h q =
      let rest = back_of (IsKey keys.Tick) (IsEnclosed e then IsMark marks.Semi) ts h.0 q in
      let inner = front_of (IsEnclosed e) (IsMark marks.Semi) rest.text rest.is rest.quiet in
      enclosed e inner.text inner.is inner.quiet
  quiet_command (CommandTree.branch g a b s) ts h q =
      let r1 = back_of (IsKey keys.If) (IsEnclosed g then IsPblock a then IsKey keys.Else then IsPblock b) ts h.0 q in
      let guard = front_of (IsEnclosed g) (IsPblock a then IsKey keys.Else then IsPblock b) r1.text r1.is r1.quiet in
      let r2 = back_of (IsEnclosed g) (IsPblock a then IsKey keys.Else then IsPblock b) r1.text r1.is r1.quiet in
      let left = front_of (IsPblock a) (IsKey keys.Else then IsPblock b) r2.text r2.is r2.quiet in
      let r3 = back_of (IsPblock a) (IsKey keys.Else then IsPblock b) r2.text r2.is r2.quiet in
      let right = back_of (IsKey keys.Else) (IsPblock b) r3.text r3.is r3.quiet in
      let first = braced (IsCommands a) left.text left.is left.quiet in
      let second = braced (IsCommands b) right.text right.is right.quiet in
      (enclosed g guard.text guard.is guard.quiet, (quiet_commands a first.text first.is first.quiet, quiet_commands b second.text second.is second.quiet))
  quiet_command (CommandTree.mix p a b s) ts h q =
      let left = front_of (IsPblock a) (IsMark marks.BracketLeft then IsFull p then IsMark marks.BracketRight then IsPblock b) ts h.0 q in
      let r1 = back_of (IsPblock a) (IsMark marks.BracketLeft then IsFull p then IsMark marks.BracketRight then IsPblock b) ts h.0 q in
      let r2 = back_of (IsMark marks.BracketLeft) (IsFull p then IsMark marks.BracketRight then IsPblock b) r1.text r1.is r1.quiet in
      let probability = front_of (IsFull p) (IsMark marks.BracketRight then IsPblock b) r2.text r2.is r2.quiet in
      let r3 = back_of (IsFull p) (IsMark marks.BracketRight then IsPblock b) r2.text r2.is r2.quiet in
      let right = back_of (IsMark marks.BracketRight) (IsPblock b) r3.text r3.is r3.quiet in
      let first = braced (IsCommands a) left.text left.is left.quiet in
      let second = braced (IsCommands b) right.text right.is right.quiet in
      (quiet_expression p 9 probability.text probability.is probability.quiet, (quiet_commands a first.text first.is first.quiet, quiet_commands b second.text second.is second.quiet))
  quiet_command (CommandTree.choice a b s) ts h q =
      let left = front_of (IsPblock a) (IsMark marks.BracketLeft then IsMark marks.BracketRight then IsPblock b) ts h.0 q in
      let r1 = back_of (IsPblock a) (IsMark marks.BracketLeft then IsMark marks.BracketRight then IsPblock b) ts h.0 q in
      let r2 = back_of (IsMark marks.BracketLeft) (IsMark marks.BracketRight then IsPblock b) r1.text r1.is r1.quiet in
      let right = back_of (IsMark marks.BracketRight) (IsPblock b) r2.text r2.is r2.quiet in
      let first = braced (IsCommands a) left.text left.is left.quiet in
      let second = braced (IsCommands b) right.text right.is right.quiet in
      (quiet_commands a first.text first.is first.quiet, quiet_commands b second.text second.is second.quiet)
  quiet_command (CommandTree.repeat g i a s) ts h q =
      let r1 = back_of (IsKey keys.While) (IsEnclosed g then IsMark marks.BracketLeft then IsFull i then IsMark marks.BracketRight then IsPblock a) ts h.0 q in
      let guard = front_of (IsEnclosed g) (IsMark marks.BracketLeft then IsFull i then IsMark marks.BracketRight then IsPblock a) r1.text r1.is r1.quiet in
      let r2 = back_of (IsEnclosed g) (IsMark marks.BracketLeft then IsFull i then IsMark marks.BracketRight then IsPblock a) r1.text r1.is r1.quiet in
      let r3 = back_of (IsMark marks.BracketLeft) (IsFull i then IsMark marks.BracketRight then IsPblock a) r2.text r2.is r2.quiet in
      let r4 = back_of (IsFull i) (IsMark marks.BracketRight then IsPblock a) r3.text r3.is r3.quiet in
      let body = back_of (IsMark marks.BracketRight) (IsPblock a) r4.text r4.is r4.quiet in
      let inner = braced (IsCommands a) body.text body.is body.quiet in
      (enclosed g guard.text guard.is guard.quiet, quiet_commands a inner.text inner.is inner.quiet)

  quiet_commands : (b : BlockTree) (ts : List Token) → IsCommands b ts → AreQuiet ts → IsQuietBlock b
  quiet_commands BlockTree.done ts h q = tt
  quiet_commands (BlockTree.next x xs) ts h q =
      let one = front_of (IsCommand x) (IsCommands xs) ts h q in
      let rest = back_of (IsCommand x) (IsCommands xs) ts h q in
      (quiet_command x one.text one.is one.quiet, quiet_commands xs rest.text rest.is rest.quiet)

abbrev pub ArePlain : List Declaration → Type 0
ArePlain [] = Unit {0}
ArePlain (d ∷ ds) = IsPlain d.name × ArePlain ds

plain_declarations : (ds : List Declaration) (ts : List Token) → IsEach IsDeclaration ds ts → AreQuiet ts → ArePlain ds
plain_declarations [] ts h q = tt
plain_declarations (d ∷ ds) ts h q =
    let one = front_of (IsDeclaration d) (IsEach IsDeclaration ds) ts h q in
    let rest = back_of (IsDeclaration d) (IsEach IsDeclaration ds) ts h q in
    let behind = back_of (IsName (type_word d.ty)) (IsName d.name then IsMark marks.Semi) one.text one.is.0 one.quiet in
    let named = front_of (IsName d.name) (IsMark marks.Semi) behind.text behind.is behind.quiet in
    (plain_name d.name named.text named.is named.quiet, plain_declarations ds rest.text rest.is rest.quiet)

-- The names of the program are plain, and its expressions are quiet.
pub record IsQuietProgram (p : ProgramTree) : Type 0 where
  pub declarations : ArePlain p.declarations
  pub pre : IsQuiet p.pre
  pub post : IsQuiet p.post
  pub body : IsQuietBlock p.body

quiet_prog : (p : ProgramTree) (ts : List Token) → IsProg p ts → AreQuiet ts → IsQuietProgram p
quiet_prog p ts h q =
    let ds = front_of (IsEach IsDeclaration p.declarations) (IsKey keys.Pre then IsFull p.pre then IsMark marks.Semi then IsKey keys.Post then IsFull p.post then IsMark marks.Semi then IsCommands p.body) ts h q in
    let r1 = back_of (IsEach IsDeclaration p.declarations) (IsKey keys.Pre then IsFull p.pre then IsMark marks.Semi then IsKey keys.Post then IsFull p.post then IsMark marks.Semi then IsCommands p.body) ts h q in
    let r2 = back_of (IsKey keys.Pre) (IsFull p.pre then IsMark marks.Semi then IsKey keys.Post then IsFull p.post then IsMark marks.Semi then IsCommands p.body) r1.text r1.is r1.quiet in
    let pre = front_of (IsFull p.pre) (IsMark marks.Semi then IsKey keys.Post then IsFull p.post then IsMark marks.Semi then IsCommands p.body) r2.text r2.is r2.quiet in
    let r3 = back_of (IsFull p.pre) (IsMark marks.Semi then IsKey keys.Post then IsFull p.post then IsMark marks.Semi then IsCommands p.body) r2.text r2.is r2.quiet in
    let r4 = back_of (IsMark marks.Semi) (IsKey keys.Post then IsFull p.post then IsMark marks.Semi then IsCommands p.body) r3.text r3.is r3.quiet in
    let r5 = back_of (IsKey keys.Post) (IsFull p.post then IsMark marks.Semi then IsCommands p.body) r4.text r4.is r4.quiet in
    let post = front_of (IsFull p.post) (IsMark marks.Semi then IsCommands p.body) r5.text r5.is r5.quiet in
    let r6 = back_of (IsFull p.post) (IsMark marks.Semi then IsCommands p.body) r5.text r5.is r5.quiet in
    let body = back_of (IsMark marks.Semi) (IsCommands p.body) r6.text r6.is r6.quiet in
    record {
      declarations = plain_declarations p.declarations ds.text ds.is ds.quiet;
      pre = quiet_expression p.pre 9 pre.text pre.is pre.quiet;
      post = quiet_expression p.post 9 post.text post.is post.quiet;
      body = quiet_commands p.body body.text body.is body.quiet;
    }

pub quiet_program : (p : ProgramTree) (ts : List Token) → IsTranslatable p ts → IsQuietProgram p
quiet_program p ts t = quiet_prog p ts t.spelled.grammar (quiet_from (length p.declarations) ts t.unreserved ts 0 refl t.spelled.unquantified)
