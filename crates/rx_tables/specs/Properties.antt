-- Words that may stand in a property escape. No agreement with any edition of Unicode is claimed.
-- Why: docs/DECISIONS.md, 16.
use Rattle.std.specs.Prelude.{ℕ, List, [], ◌∷◌, codes, Contains, ◌⊎◌}

-- the binary properties of characters
unfoldable pub binary_properties : List (List ℕ)
binary_properties =
    codes "ASCII" ∷ codes "ASCII_Hex_Digit" ∷ codes "AHex" ∷ codes "Alphabetic" ∷ codes "Alpha" ∷ codes "Any" ∷
    codes "Assigned" ∷ codes "Bidi_Control" ∷ codes "Bidi_C" ∷ codes "Bidi_Mirrored" ∷ codes "Bidi_M" ∷
    codes "Case_Ignorable" ∷ codes "CI" ∷ codes "Cased" ∷ codes "Changes_When_Casefolded" ∷ codes "CWCF" ∷
    codes "Changes_When_Casemapped" ∷ codes "CWCM" ∷ codes "Changes_When_Lowercased" ∷ codes "CWL" ∷
    codes "Changes_When_NFKC_Casefolded" ∷ codes "CWKCF" ∷ codes "Changes_When_Titlecased" ∷ codes "CWT" ∷
    codes "Changes_When_Uppercased" ∷ codes "CWU" ∷ codes "Dash" ∷ codes "Default_Ignorable_Code_Point" ∷ codes "DI" ∷
    codes "Deprecated" ∷ codes "Dep" ∷ codes "Diacritic" ∷ codes "Dia" ∷ codes "Emoji" ∷ codes "Emoji_Component" ∷
    codes "EComp" ∷ codes "Emoji_Modifier" ∷ codes "EMod" ∷ codes "Emoji_Modifier_Base" ∷ codes "EBase" ∷
    codes "Emoji_Presentation" ∷ codes "EPres" ∷ codes "Extended_Pictographic" ∷ codes "ExtPict" ∷ codes "Extender" ∷
    codes "Ext" ∷ codes "Grapheme_Base" ∷ codes "Gr_Base" ∷ codes "Grapheme_Extend" ∷ codes "Gr_Ext" ∷
    codes "Hex_Digit" ∷ codes "Hex" ∷ codes "IDS_Binary_Operator" ∷ codes "IDSB" ∷ codes "IDS_Trinary_Operator" ∷
    codes "IDST" ∷ codes "ID_Continue" ∷ codes "IDC" ∷ codes "ID_Start" ∷ codes "IDS" ∷ codes "Ideographic" ∷
    codes "Ideo" ∷ codes "Join_Control" ∷ codes "Join_C" ∷ codes "Logical_Order_Exception" ∷ codes "LOE" ∷
    codes "Lowercase" ∷ codes "Lower" ∷ codes "Math" ∷ codes "Noncharacter_Code_Point" ∷ codes "NChar" ∷
    codes "Pattern_Syntax" ∷ codes "Pat_Syn" ∷ codes "Pattern_White_Space" ∷ codes "Pat_WS" ∷ codes "Quotation_Mark" ∷
    codes "QMark" ∷ codes "Radical" ∷ codes "Regional_Indicator" ∷ codes "RI" ∷ codes "Sentence_Terminal" ∷
    codes "STerm" ∷ codes "Soft_Dotted" ∷ codes "SD" ∷ codes "Terminal_Punctuation" ∷ codes "Term" ∷
    codes "Unified_Ideograph" ∷ codes "UIdeo" ∷ codes "Uppercase" ∷ codes "Upper" ∷ codes "Variation_Selector" ∷
    codes "VS" ∷ codes "White_Space" ∷ codes "space" ∷ codes "XID_Continue" ∷ codes "XIDC" ∷ codes "XID_Start" ∷
    codes "XIDS" ∷ []

-- the values of General_Category
unfoldable pub general_category_values : List (List ℕ)
general_category_values =
    codes "C" ∷ codes "Other" ∷ codes "Cc" ∷ codes "Control" ∷ codes "cntrl" ∷ codes "Cf" ∷ codes "Format" ∷
    codes "Cn" ∷ codes "Unassigned" ∷ codes "Co" ∷ codes "Private_Use" ∷ codes "Cs" ∷ codes "Surrogate" ∷ codes "L" ∷
    codes "Letter" ∷ codes "LC" ∷ codes "Cased_Letter" ∷ codes "Ll" ∷ codes "Lowercase_Letter" ∷ codes "Lm" ∷
    codes "Modifier_Letter" ∷ codes "Lo" ∷ codes "Other_Letter" ∷ codes "Lt" ∷ codes "Titlecase_Letter" ∷ codes "Lu" ∷
    codes "Uppercase_Letter" ∷ codes "M" ∷ codes "Mark" ∷ codes "Combining_Mark" ∷ codes "Mc" ∷ codes "Spacing_Mark" ∷
    codes "Me" ∷ codes "Enclosing_Mark" ∷ codes "Mn" ∷ codes "Nonspacing_Mark" ∷ codes "N" ∷ codes "Number" ∷
    codes "Nd" ∷ codes "Decimal_Number" ∷ codes "digit" ∷ codes "Nl" ∷ codes "Letter_Number" ∷ codes "No" ∷
    codes "Other_Number" ∷ codes "P" ∷ codes "Punctuation" ∷ codes "punct" ∷ codes "Pc" ∷
    codes "Connector_Punctuation" ∷ codes "Pd" ∷ codes "Dash_Punctuation" ∷ codes "Pe" ∷ codes "Close_Punctuation" ∷
    codes "Pf" ∷ codes "Final_Punctuation" ∷ codes "Pi" ∷ codes "Initial_Punctuation" ∷ codes "Po" ∷
    codes "Other_Punctuation" ∷ codes "Ps" ∷ codes "Open_Punctuation" ∷ codes "S" ∷ codes "Symbol" ∷ codes "Sc" ∷
    codes "Currency_Symbol" ∷ codes "Sk" ∷ codes "Modifier_Symbol" ∷ codes "Sm" ∷ codes "Math_Symbol" ∷ codes "So" ∷
    codes "Other_Symbol" ∷ codes "Z" ∷ codes "Separator" ∷ codes "Zl" ∷ codes "Line_Separator" ∷ codes "Zp" ∷
    codes "Paragraph_Separator" ∷ codes "Zs" ∷ codes "Space_Separator" ∷ []

-- the values of Script and Script_Extensions
unfoldable pub script_values : List (List ℕ)
script_values =
    codes "Adlm" ∷ codes "Adlam" ∷ codes "Aghb" ∷ codes "Caucasian_Albanian" ∷ codes "Ahom" ∷ codes "Arab" ∷
    codes "Arabic" ∷ codes "Armi" ∷ codes "Imperial_Aramaic" ∷ codes "Armn" ∷ codes "Armenian" ∷ codes "Avst" ∷
    codes "Avestan" ∷ codes "Bali" ∷ codes "Balinese" ∷ codes "Bamu" ∷ codes "Bamum" ∷ codes "Bass" ∷
    codes "Bassa_Vah" ∷ codes "Batk" ∷ codes "Batak" ∷ codes "Beng" ∷ codes "Bengali" ∷ codes "Berf" ∷
    codes "Beria_Erfe" ∷ codes "Bhks" ∷ codes "Bhaiksuki" ∷ codes "Bopo" ∷ codes "Bopomofo" ∷ codes "Brah" ∷
    codes "Brahmi" ∷ codes "Brai" ∷ codes "Braille" ∷ codes "Bugi" ∷ codes "Buginese" ∷ codes "Buhd" ∷ codes "Buhid" ∷
    codes "Cakm" ∷ codes "Chakma" ∷ codes "Cans" ∷ codes "Canadian_Aboriginal" ∷ codes "Cari" ∷ codes "Carian" ∷
    codes "Cham" ∷ codes "Cher" ∷ codes "Cherokee" ∷ codes "Chrs" ∷ codes "Chorasmian" ∷ codes "Copt" ∷
    codes "Coptic" ∷ codes "Qaac" ∷ codes "Cpmn" ∷ codes "Cypro_Minoan" ∷ codes "Cprt" ∷ codes "Cypriot" ∷
    codes "Cyrl" ∷ codes "Cyrillic" ∷ codes "Deva" ∷ codes "Devanagari" ∷ codes "Diak" ∷ codes "Dives_Akuru" ∷
    codes "Dogr" ∷ codes "Dogra" ∷ codes "Dsrt" ∷ codes "Deseret" ∷ codes "Dupl" ∷ codes "Duployan" ∷ codes "Egyp" ∷
    codes "Egyptian_Hieroglyphs" ∷ codes "Elba" ∷ codes "Elbasan" ∷ codes "Elym" ∷ codes "Elymaic" ∷ codes "Ethi" ∷
    codes "Ethiopic" ∷ codes "Gara" ∷ codes "Garay" ∷ codes "Geor" ∷ codes "Georgian" ∷ codes "Glag" ∷
    codes "Glagolitic" ∷ codes "Gong" ∷ codes "Gunjala_Gondi" ∷ codes "Gonm" ∷ codes "Masaram_Gondi" ∷ codes "Goth" ∷
    codes "Gothic" ∷ codes "Gran" ∷ codes "Grantha" ∷ codes "Grek" ∷ codes "Greek" ∷ codes "Gujr" ∷ codes "Gujarati" ∷
    codes "Gukh" ∷ codes "Gurung_Khema" ∷ codes "Guru" ∷ codes "Gurmukhi" ∷ codes "Hang" ∷ codes "Hangul" ∷
    codes "Hani" ∷ codes "Han" ∷ codes "Hano" ∷ codes "Hanunoo" ∷ codes "Hatr" ∷ codes "Hatran" ∷ codes "Hebr" ∷
    codes "Hebrew" ∷ codes "Hira" ∷ codes "Hiragana" ∷ codes "Hluw" ∷ codes "Anatolian_Hieroglyphs" ∷ codes "Hmng" ∷
    codes "Pahawh_Hmong" ∷ codes "Hmnp" ∷ codes "Nyiakeng_Puachue_Hmong" ∷ codes "Hrkt" ∷
    codes "Katakana_Or_Hiragana" ∷ codes "Hung" ∷ codes "Old_Hungarian" ∷ codes "Ital" ∷ codes "Old_Italic" ∷
    codes "Java" ∷ codes "Javanese" ∷ codes "Kali" ∷ codes "Kayah_Li" ∷ codes "Kana" ∷ codes "Katakana" ∷
    codes "Kawi" ∷ codes "Khar" ∷ codes "Kharoshthi" ∷ codes "Khmr" ∷ codes "Khmer" ∷ codes "Khoj" ∷ codes "Khojki" ∷
    codes "Kits" ∷ codes "Khitan_Small_Script" ∷ codes "Knda" ∷ codes "Kannada" ∷ codes "Krai" ∷ codes "Kirat_Rai" ∷
    codes "Kthi" ∷ codes "Kaithi" ∷ codes "Lana" ∷ codes "Tai_Tham" ∷ codes "Laoo" ∷ codes "Lao" ∷ codes "Latn" ∷
    codes "Latin" ∷ codes "Lepc" ∷ codes "Lepcha" ∷ codes "Limb" ∷ codes "Limbu" ∷ codes "Lina" ∷ codes "Linear_A" ∷
    codes "Linb" ∷ codes "Linear_B" ∷ codes "Lisu" ∷ codes "Lyci" ∷ codes "Lycian" ∷ codes "Lydi" ∷ codes "Lydian" ∷
    codes "Mahj" ∷ codes "Mahajani" ∷ codes "Maka" ∷ codes "Makasar" ∷ codes "Mand" ∷ codes "Mandaic" ∷ codes "Mani" ∷
    codes "Manichaean" ∷ codes "Marc" ∷ codes "Marchen" ∷ codes "Medf" ∷ codes "Medefaidrin" ∷ codes "Mend" ∷
    codes "Mende_Kikakui" ∷ codes "Merc" ∷ codes "Meroitic_Cursive" ∷ codes "Mero" ∷ codes "Meroitic_Hieroglyphs" ∷
    codes "Mlym" ∷ codes "Malayalam" ∷ codes "Modi" ∷ codes "Mong" ∷ codes "Mongolian" ∷ codes "Mroo" ∷ codes "Mro" ∷
    codes "Mtei" ∷ codes "Meetei_Mayek" ∷ codes "Mult" ∷ codes "Multani" ∷ codes "Mymr" ∷ codes "Myanmar" ∷
    codes "Nagm" ∷ codes "Nag_Mundari" ∷ codes "Nand" ∷ codes "Nandinagari" ∷ codes "Narb" ∷
    codes "Old_North_Arabian" ∷ codes "Nbat" ∷ codes "Nabataean" ∷ codes "Newa" ∷ codes "Nkoo" ∷ codes "Nko" ∷
    codes "Nshu" ∷ codes "Nushu" ∷ codes "Ogam" ∷ codes "Ogham" ∷ codes "Olck" ∷ codes "Ol_Chiki" ∷ codes "Onao" ∷
    codes "Ol_Onal" ∷ codes "Orkh" ∷ codes "Old_Turkic" ∷ codes "Orya" ∷ codes "Oriya" ∷ codes "Osge" ∷
    codes "Osage" ∷ codes "Osma" ∷ codes "Osmanya" ∷ codes "Ougr" ∷ codes "Old_Uyghur" ∷ codes "Palm" ∷
    codes "Palmyrene" ∷ codes "Pauc" ∷ codes "Pau_Cin_Hau" ∷ codes "Perm" ∷ codes "Old_Permic" ∷ codes "Phag" ∷
    codes "Phags_Pa" ∷ codes "Phli" ∷ codes "Inscriptional_Pahlavi" ∷ codes "Phlp" ∷ codes "Psalter_Pahlavi" ∷
    codes "Phnx" ∷ codes "Phoenician" ∷ codes "Plrd" ∷ codes "Miao" ∷ codes "Prti" ∷ codes "Inscriptional_Parthian" ∷
    codes "Rjng" ∷ codes "Rejang" ∷ codes "Rohg" ∷ codes "Hanifi_Rohingya" ∷ codes "Runr" ∷ codes "Runic" ∷
    codes "Samr" ∷ codes "Samaritan" ∷ codes "Sarb" ∷ codes "Old_South_Arabian" ∷ codes "Saur" ∷ codes "Saurashtra" ∷
    codes "Sgnw" ∷ codes "SignWriting" ∷ codes "Shaw" ∷ codes "Shavian" ∷ codes "Shrd" ∷ codes "Sharada" ∷
    codes "Sidd" ∷ codes "Siddham" ∷ codes "Sidt" ∷ codes "Sidetic" ∷ codes "Sind" ∷ codes "Khudawadi" ∷
    codes "Sinh" ∷ codes "Sinhala" ∷ codes "Sogd" ∷ codes "Sogdian" ∷ codes "Sogo" ∷ codes "Old_Sogdian" ∷
    codes "Sora" ∷ codes "Sora_Sompeng" ∷ codes "Soyo" ∷ codes "Soyombo" ∷ codes "Sund" ∷ codes "Sundanese" ∷
    codes "Sunu" ∷ codes "Sunuwar" ∷ codes "Sylo" ∷ codes "Syloti_Nagri" ∷ codes "Syrc" ∷ codes "Syriac" ∷
    codes "Tagb" ∷ codes "Tagbanwa" ∷ codes "Takr" ∷ codes "Takri" ∷ codes "Tale" ∷ codes "Tai_Le" ∷ codes "Talu" ∷
    codes "New_Tai_Lue" ∷ codes "Taml" ∷ codes "Tamil" ∷ codes "Tang" ∷ codes "Tangut" ∷ codes "Tavt" ∷
    codes "Tai_Viet" ∷ codes "Tayo" ∷ codes "Tai_Yo" ∷ codes "Telu" ∷ codes "Telugu" ∷ codes "Tfng" ∷
    codes "Tifinagh" ∷ codes "Tglg" ∷ codes "Tagalog" ∷ codes "Thaa" ∷ codes "Thaana" ∷ codes "Thai" ∷ codes "Tibt" ∷
    codes "Tibetan" ∷ codes "Tirh" ∷ codes "Tirhuta" ∷ codes "Tnsa" ∷ codes "Tangsa" ∷ codes "Todr" ∷ codes "Todhri" ∷
    codes "Tols" ∷ codes "Tolong_Siki" ∷ codes "Toto" ∷ codes "Tutg" ∷ codes "Tulu_Tigalari" ∷ codes "Ugar" ∷
    codes "Ugaritic" ∷ codes "Vaii" ∷ codes "Vai" ∷ codes "Vith" ∷ codes "Vithkuqi" ∷ codes "Wara" ∷
    codes "Warang_Citi" ∷ codes "Wcho" ∷ codes "Wancho" ∷ codes "Xpeo" ∷ codes "Old_Persian" ∷ codes "Xsux" ∷
    codes "Cuneiform" ∷ codes "Yezi" ∷ codes "Yezidi" ∷ codes "Yiii" ∷ codes "Yi" ∷ codes "Zanb" ∷
    codes "Zanabazar_Square" ∷ codes "Zinh" ∷ codes "Inherited" ∷ codes "Qaai" ∷ codes "Zyyy" ∷ codes "Common" ∷
    codes "Zzzz" ∷ codes "Unknown" ∷ []

-- the binary properties of strings
unfoldable pub properties_of_strings : List (List ℕ)
properties_of_strings =
    codes "Basic_Emoji" ∷ codes "Emoji_Keycap_Sequence" ∷ codes "RGI_Emoji_Modifier_Sequence" ∷
    codes "RGI_Emoji_Flag_Sequence" ∷ codes "RGI_Emoji_Tag_Sequence" ∷ codes "RGI_Emoji_ZWJ_Sequence" ∷
    codes "RGI_Emoji" ∷ []

-- the names of General_Category
unfoldable pub general_category_names : List (List ℕ)
general_category_names = codes "General_Category" ∷ codes "gc" ∷ []

-- the names of Script and Script_Extensions
unfoldable pub script_names : List (List ℕ)
script_names = codes "Script" ∷ codes "sc" ∷ codes "Script_Extensions" ∷ codes "scx" ∷ []

-- UnicodePropertyName = UnicodePropertyValue (22.2.1): a name of General_Category with one of its values, or a name of Script or
-- Script_Extensions with one of theirs.
abbrev pub IsValidUnicodeProperty : List ℕ → List ℕ → Type 0
IsValidUnicodeProperty name value =
    (Contains general_category_names name × Contains general_category_values value) ⊎ (Contains script_names name × Contains script_values value)
