mod WordsAnswered
