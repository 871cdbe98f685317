-- What has to unfold for antt to compute a reading, the rules that it stands for and its plain form: one name for all of it.
use Rattle.reading.specs.Reading.{tokens}
use Rattle.reading.specs.Machine.{answer, walk, last}
use Rattle.meaning.specs.Values.{same_bytes}
use Rattle.grammar.specs.Trees.{count, head_count}
use Rattle.grammar.specs.Spelling.{with_commas, spell_term, spell_arguments, spell_signed, spell_atom, spell_operation, spell_compared, spell_literal, spell_heads, spell_head, spell_rule, spell}
use Rattle.grammar.specs.Variables.{number_of, with_variable, meet_symbol, meet, met}
use Rattle.grammar.specs.Sizes.{too_big, too_long, too_many, is_underscore, too_many_variables, refusal, fault}
use Rattle.grammar.specs.Abstraction.{term_for, terms_for, arguments_for, atom_for, comparison_for, literal_for, literals_for, heads_for, rule_for, rules_for}
use Rattle.grammar.specs.PlainForm.{each, plain_term, plain_arguments, plain_atom, plain_sign, plain_literal, plain_heads, plain_head, plain_rule, plain_form}
use Rattle.grammar.specs.Writing.{digits, symbol_bytes, comparison_bytes, sign_bytes, token_bytes, is_word_symbol, is_word, is_comparison, run_together, blank, written}
use Rattle.grammar.specs.Moves.{free_moves, symbol_number, when, fire, either, try}
use Rattle.grammar.specs.States.{atom_mark, term_mark}
use Rattle.grammar.specs.Machine.{after_literal, after_heads, after_atom, after_term, else_wanted, else_minus, else_named, a_term, moves, step, finished_atom, finished}

unfoldable pub computing : Unit {0}
unfolding tokens answer walk last same_bytes count head_count with_commas spell_term spell_arguments spell_signed spell_atom spell_operation spell_compared spell_literal spell_heads spell_head spell_rule spell number_of with_variable meet_symbol meet met too_big too_long too_many is_underscore too_many_variables refusal fault term_for terms_for arguments_for atom_for comparison_for literal_for literals_for heads_for rule_for rules_for each plain_term plain_arguments plain_atom plain_sign plain_literal plain_heads plain_head plain_rule plain_form digits symbol_bytes comparison_bytes sign_bytes token_bytes is_word_symbol is_word is_comparison run_together blank written free_moves symbol_number when fire either try atom_mark term_mark after_literal after_heads after_atom after_term else_wanted else_minus else_named a_term moves step finished_atom finished
computing = tt
