-- Each range of letters is computed. Assumes nothing.
use Rattle.std.proofs.Common.{refl, arith}
use Rattle.rules.specs.Tables.{alphabetic_table}
use Rattle.rules.specs.Classes.{in_ranges, alphabetic}
use Rattle.lexer.proofs.Classes.{alphabetic_from}
use Rattle.lexer.proofs.tokenizer.is_common_letter.Goals as goal

pub returns-in-192-to-214 : goal.returns-in-192-to-214
unfolding alphabetic in_ranges alphabetic_table
returns-in-192-to-214 c e = alphabetic_from 0xC0 23 refl c.args.c (omega arith) (omega arith)

pub returns-in-192-to-214-2 : goal.returns-in-192-to-214-2
unfolding alphabetic in_ranges alphabetic_table
returns-in-192-to-214-2 c e = alphabetic_from 0xD8 31 refl c.args.c (omega arith) (omega arith)

pub returns-in-192-to-214-3 : goal.returns-in-192-to-214-3
unfolding alphabetic in_ranges alphabetic_table
returns-in-192-to-214-3 c e = alphabetic_from 0xF8 458 refl c.args.c (omega arith) (omega arith)

pub returns-in-192-to-214-4 : goal.returns-in-192-to-214-4
unfolding alphabetic in_ranges alphabetic_table
returns-in-192-to-214-4 c e = alphabetic_from 0x400 130 refl c.args.c (omega arith) (omega arith)

pub returns-in-192-to-214-5 : goal.returns-in-192-to-214-5
unfolding alphabetic in_ranges alphabetic_table
returns-in-192-to-214-5 c e = alphabetic_from 0x5D0 27 refl c.args.c (omega arith) (omega arith)

pub returns-in-192-to-214-6 : goal.returns-in-192-to-214-6
unfolding alphabetic in_ranges alphabetic_table
returns-in-192-to-214-6 c e = alphabetic_from 0x620 56 refl c.args.c (omega arith) (omega arith)

pub returns-in-192-to-214-7 : goal.returns-in-192-to-214-7
unfolding alphabetic in_ranges alphabetic_table
returns-in-192-to-214-7 c e = alphabetic_from 0x66E 102 refl c.args.c (omega arith) (omega arith)
