mod EntryTexts
