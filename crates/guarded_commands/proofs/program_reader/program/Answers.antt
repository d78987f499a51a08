use Rattle.heyvl_parse.proofs.exported.Wholes.{ended_bad, ended_good}
use Rattle.heyvl_parse.specs.readers.ReadParts.{mapped}
use Rattle.heyvl_syntax.specs.Expressions.{expression}
use Rattle.guarded_commands.proofs.program_reader.program.Goals as goal
use Rattle.guarded_commands.specs.Programs.{block_tree}
use Rattle.guarded_commands.specs.internal.Programs.{parts, parts_tree}
use Rattle.std.proofs.Common.{arith, refl}
use Rattle.std.proofs.lemmas.Grind.{common_steps}

pub returns-in_err-declarations : goal.returns-in_err-declarations
returns-in_err-declarations c = record { value = λ n h. grind (arith, common_steps, c.in_err-declarations.ensures.value n h) }

pub returns-in_err-pre : goal.returns-in_err-pre
returns-in_err-pre c = record { value = λ n h. rw (c.in_ok-declarations.ensures.value n h) (grind (arith, common_steps, c.in_err-pre.ensures.value n (omega (arith, c.in_ok-declarations.ensures.shorter)))) }

pub returns-in_err-post : goal.returns-in_err-post
returns-in_err-post c = record { value = λ n h. rw (c.in_ok-declarations.ensures.value n h, c.in_ok-pre.ensures.value n (omega (arith, c.in_ok-declarations.ensures.shorter))) (grind (arith, common_steps, c.in_err-post.ensures.value n (omega (arith, c.in_ok-declarations.ensures.shorter, c.in_ok-pre.ensures.shorter)))) }

pub returns-in_err-body : goal.returns-in_err-body
returns-in_err-body c = record { value = λ n h. rw (c.in_ok-declarations.ensures.value n h, c.in_ok-pre.ensures.value n (omega (arith, c.in_ok-declarations.ensures.shorter)), c.in_ok-post.ensures.value n (omega (arith, c.in_ok-declarations.ensures.shorter, c.in_ok-pre.ensures.shorter))) (grind (arith, common_steps, c.in_err-body.ensures.value n (omega (arith, c.in_ok-declarations.ensures.shorter, c.in_ok-pre.ensures.shorter, c.in_ok-post.ensures.shorter)))) }

pub returns-in-None : goal.returns-in-None
returns-in-None c = record { value = λ n h. ended_good (mapped parts_tree (parts n)) c.args.tokens.now c.in_ok-body.rest.now (parts_tree (c.in_ok-declarations.declarations.items, (expression c.in_ok-pre.pre, (expression c.in_ok-post.post, block_tree c.in_ok-body.body.items)))) (rw (c.in_ok-declarations.ensures.value n h, c.in_ok-pre.ensures.value n (omega (arith, c.in_ok-declarations.ensures.shorter)), c.in_ok-post.ensures.value n (omega (arith, c.in_ok-declarations.ensures.shorter, c.in_ok-pre.ensures.shorter)), c.in_ok-body.ensures.value n (omega (arith, c.in_ok-declarations.ensures.shorter, c.in_ok-pre.ensures.shorter, c.in_ok-post.ensures.shorter))) refl) c.in-None.ensures.cases }

pub returns-in-Some : goal.returns-in-Some
returns-in-Some c = record { value = λ n h. (c.in_ok-body.rest.now, ended_bad (mapped parts_tree (parts n)) c.args.tokens.now c.in_ok-body.rest.now _ _ (parts_tree (c.in_ok-declarations.declarations.items, (expression c.in_ok-pre.pre, (expression c.in_ok-post.post, block_tree c.in_ok-body.body.items)))) (rw (c.in_ok-declarations.ensures.value n h, c.in_ok-pre.ensures.value n (omega (arith, c.in_ok-declarations.ensures.shorter)), c.in_ok-post.ensures.value n (omega (arith, c.in_ok-declarations.ensures.shorter, c.in_ok-pre.ensures.shorter)), c.in_ok-body.ensures.value n (omega (arith, c.in_ok-declarations.ensures.shorter, c.in_ok-pre.ensures.shorter, c.in_ok-post.ensures.shorter))) refl) c.in-Some.ensures.cases.0, refl) }
