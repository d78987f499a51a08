-- For other crates: the laws of readers, and of their combinations.
pub use Rattle.heyvl_parse.proofs.BranchLaws.{then_back}
pub use Rattle.heyvl_parse.proofs.KeyLaws.{OfKind, kind_laws, led_starts}
pub use Rattle.heyvl_parse.proofs.Lawful.{Both, IsTest, Laws, apart, chosen_local, each_laws, laws_less, laws_same, laws_stop, lead_laws, lead_more, local_refuse, mapped_laws, pair_free, pair_laws, sign_laws, some_both, some_each, starts_front, starts_same, trail_laws}
pub use Rattle.heyvl_parse.proofs.Local.{Local, LocalAt, local_bind, local_got, local_mapped, local_one}
pub use Rattle.heyvl_parse.proofs.PlacedLaws.{Made, laws_alike, made_laws}
pub use Rattle.heyvl_parse.proofs.Right.{Holds, Right, RightAt, Some_text, nowhere, right_as, right_bind, right_map, right_one, right_word, some_word}
pub use Rattle.heyvl_parse.proofs.RightLaws.{IsBarred, anything, barred, ended_by, expr_laws, key_test, led, mark_test, some_full, some_lead, some_trail, word_laws}
